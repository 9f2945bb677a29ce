-- The operands of a command.
use Rattle.std.proofs.Common.{◌≡◌, ℕ, suc, ◌+◌, ◌≤◌, Bool, true, false, List, [], ◌∷◌, ◌++◌, length, Result, Ok, Err, refl, ◌∙◌, ap, ap₂, arith}
use Rattle.std.specs.Prelude.{if◌then◌else◌, nat_le}
use Rattle.ips_text.specs.declared.refusal.Stop.{Stop}
use Rattle.ips_text.specs.Reading.{◌>>=◌}
use Rattle.ips_syntax.specs.declared.table.Why.{Why}
use Rattle.ips_syntax.specs.declared.table.Why.TheVariants.{Missing, Unknown, Repeated, Extra}
use Rattle.ips_syntax.specs.declared.table.Role.TheVariants.{Operand}
use Rattle.ips_syntax.specs.declared.table.Operands.{Operands}
use Rattle.ips_syntax.specs.declared.values.Value.{Value}
use Rattle.ips_syntax.specs.declared.values.Given.{Given}
use Rattle.ips_syntax.specs.Values.{value_at}
use Rattle.ips_syntax.specs.Reading.{stop, stopping, valued, is_dashed, is_name_given, operand_at, operands_at}
use Rattle.std.proofs.lemmas.Bool.{le-leb}
use Rattle.ips_usage.proofs.Fault.{Words, Completes, Judged, refused_at, lacking_at, goes_on, no_fault}
use Rattle.ips_usage.proofs.Values.{IsSound, bad_value}

-- what is read of operands
abbrev Out : Type 0
Out = Result (List Given) (Stop Why)

-- an operand by whether its name was given
abbrev by_name : Bool → ℕ → List Given → Value → (List Given → Out) → Out
by_name named left given v next = (if named then Err (stop Repeated left) else Ok (given ++ valued Operand v ∷ [])) >>= next

-- an operand by its value
abbrev by_value : Result Value Why → ℕ → List Given → (List Given → Out) → Out
by_value r left given next = (stopping left r >>= λ v. if is_name_given v given then Err (stop Repeated left) else Ok (given ++ valued Operand v ∷ [])) >>= next

-- operands by what is known of the first
abbrev by_first : Bool → Bool → Operands → ℕ → List Given → List ℕ → Words → Out
by_first most dashed o count given word us =
    if most then Err (stop Extra (suc (length us)))
    else (if dashed then Err (stop Unknown (suc (length us)))
    else (operand_at o.form (suc (length us)) given word >>= λ more. operands_at o (count + 1) more us))

pub operands_none : (o : Operands) (count : ℕ) (given : List Given) → operands_at o count given [] ≡ (if nat_le o.least count then Ok given else Err (stop Missing 0))
unfolding operands_at
operands_none o count given = refl

operands_more : (o : Operands) (count : ℕ) (given : List Given) (word : List ℕ) (us : Words) → operands_at o count given (word ∷ us) ≡ by_first (nat_le o.most count) (is_dashed word) o count given word us
unfolding operands_at
operands_more o count given word us = refl

-- so many are enough
pub enough : (o : Operands) (count : ℕ) (given : List Given) → nat_le o.least count ≡ true → operands_at o count given [] ≡ Ok given
enough o count given e = operands_none o count given ∙ ap (λ (b : Bool). if b then Ok given else Err (stop Missing 0)) e

-- the first operand is read
pub first_read : (o : Operands) (count : ℕ) (given : List Given) (word : List ℕ) (us : Words) (v : Value) → nat_le o.most count ≡ false → is_dashed word ≡ false → value_at o.form word ≡ Ok v → is_name_given v given ≡ false
    → operands_at o count given (word ∷ us) ≡ operands_at o (count + 1) (given ++ valued Operand v ∷ []) us
first_read o count given word us v most dashed value named =
    let next : List Given → Out = λ more. operands_at o (count + 1) more us in
    operands_more o count given word us
    ∙ ap₂ (λ (m d : Bool). by_first m d o count given word us) most dashed
    ∙ ap (λ (r : Result Value Why). by_value r (suc (length us)) given next) value
    ∙ ap (λ (b : Bool). by_name b (suc (length us)) given v next) named

-- the first operand is at fault, or one behind it
operand_step : (o : Operands) (count : ℕ) (given : List Given) (word : List ℕ) (words : Words) → Completes (operands_at o count given)
    → ((v : Value) → Judged (operands_at o (count + 1) (given ++ valued Operand v ∷ [])) words)
    → (most dashed : Bool) → nat_le o.most count ≡ most → is_dashed word ≡ dashed → (r : Result Value Why) → value_at o.form word ≡ r → IsSound (λ v. Unit {0}) r
    → (named : (v : Value) → (b : Bool) × (is_name_given v given ≡ b)) → Judged (operands_at o count given) (word ∷ words)
operand_step o count given word words complete behind true dashed em ed r er sound named =
    refused_at (operands_at o count given) word words Extra (λ h. cc) (λ us. operands_more o count given word us ∙ ap (λ (m : Bool). by_first m (is_dashed word) o count given word us) em) complete
operand_step o count given word words complete behind false true em ed r er sound named =
    refused_at (operands_at o count given) word words Unknown (λ h. cc) (λ us. operands_more o count given word us ∙ ap₂ (λ (m d : Bool). by_first m d o count given word us) em ed) complete
operand_step o count given word words complete behind false false em ed (Err why) er sound named =
    refused_at (operands_at o count given) word words why (λ h. cc)
    (λ us. operands_more o count given word us ∙ ap₂ (λ (m d : Bool). by_first m d o count given word us) em ed
    ∙ ap (λ (r : Result Value Why). by_value r (suc (length us)) given (λ more. operands_at o (count + 1) more us)) er) complete
operand_step o count given word words complete behind false false em ed (Ok v) er sound named = go (named v).0 (named v).1
  where
    go : (b : Bool) → is_name_given v given ≡ b → Judged (operands_at o count given) (word ∷ words)
    go true e =
        refused_at (operands_at o count given) word words Repeated (λ h. cc)
        (λ us. operands_more o count given word us ∙ ap₂ (λ (m d : Bool). by_first m d o count given word us) em ed
        ∙ ap (λ (r : Result Value Why). by_value r (suc (length us)) given (λ more. operands_at o (count + 1) more us)) er
        ∙ ap (λ (b : Bool). by_name b (suc (length us)) given v (λ more. operands_at o (count + 1) more us)) e) complete
    go false e = goes_on (operands_at o count given) (operands_at o (count + 1) (given ++ valued Operand v ∷ [])) word words (λ us. first_read o count given word us v em ed er e) (behind v)

-- operands are at fault at the first that nothing continues
pub operands_judged : (o : Operands) (count : ℕ) (given : List Given) (words : Words) → o.least ≤ 1 → Completes (operands_at o count given) → Judged (operands_at o count given) words
operands_judged o count given [] small complete = go (nat_le o.least count) refl
  where
    go : (b : Bool) → nat_le o.least count ≡ b → Judged (operands_at o count given) []
    go true e = no_fault (operands_at o count given) [] given (operands_none o count given ∙ ap (λ (b : Bool). if b then Ok given else Err (stop Missing 0)) e)
    go false e = lacking_at (operands_at o count given) (operands_none o count given ∙ ap (λ (b : Bool). if b then Ok given else Err (stop Missing 0)) e) complete
operands_judged o count given (word ∷ words) small complete =
    operand_step o count given word words complete
    (λ v. operands_judged o (count + 1) (given ++ valued Operand v ∷ []) words small ([], given ++ valued Operand v ∷ [], enough o (count + 1) (given ++ valued Operand v ∷ []) (le-leb o.least (count + 1) (omega (arith, small)))))
    (nat_le o.most count) (is_dashed word) refl refl (value_at o.form word) refl (bad_value o.form word) (λ v. (is_name_given v given, refl))
