-- Where the line of a command goes wrong.
use Rattle.std.proofs.Common.{◌≡◌, ℕ, suc, ◌≤◌, Bool, true, false, ◌||◌, List, [], ◌∷◌, ◌++◌, length, Result, Ok, Err, refl, ◌∙◌, ap, ap₂, arith}
use Rattle.std.specs.Prelude.{if◌then◌else◌, nat_le}
use Rattle.ips_syntax.specs.declared.table.Why.{Why}
use Rattle.ips_syntax.specs.declared.table.Why.TheVariants.{Missing, Unknown, Repeated}
use Rattle.ips_syntax.specs.declared.table.Verb.{Verb}
use Rattle.ips_syntax.specs.declared.table.Verb.TheVariants as verb
use Rattle.ips_syntax.specs.declared.values.Value.{Value}
use Rattle.ips_syntax.specs.declared.values.Given.{Given}
use Rattle.ips_syntax.specs.Table.{operands_of, required_of, value_form}
use Rattle.ips_syntax.specs.Values.{value_at}
use Rattle.ips_syntax.specs.Reading.{stop, plain, valued, is_dashed, is_operand, role_of, takes_value, again, lacks, operands_at}
use Rattle.ips_usage.proofs.Fault.{Words, Judged, refused_at, lacking_at, goes_on, reads_as, no_fault}
use Rattle.ips_usage.proofs.Values.{IsSound, bad_value}
use Rattle.ips_usage.proofs.Operands.{operands_judged, operands_none}
use Rattle.ips_usage.proofs.Options.{option_behind, rest, rest_none, rest_operand, rest_option, repeated, plain_read, value_missing, value_bad, value_read}
use Rattle.ips_usage.proofs.Completing.{IsFine, fine_plain, fine_valued, behind_none, behind_word, completed, complete, complete_value}

-- a command wants one operand at most
small : (v : Verb) → (operands_of v).least ≤ 1
small verb.Install = omega (arith)
small verb.Uninstall = omega (arith)
small verb.Contents = omega (arith)
small verb.Search = omega (arith)
small verb.ChangeFacet = omega (arith)
small verb.ChangeVariant = omega (arith)
small verb.SetMediator = omega (arith)
small verb.UnsetMediator = omega (arith)
small verb.Avoid = omega (arith)
small verb.Unavoid = omega (arith)
small verb.Freeze = omega (arith)
small verb.Unfreeze = omega (arith)
small verb.SetPublisher = omega (arith)
small verb.UnsetPublisher = omega (arith)
small verb.Gen = omega (arith)
small v = omega (arith)

-- no word is left
none_judged : (v : Verb) (given : List Given) → IsFine v given → Judged (rest v given) []
none_judged v given fine = go (lacks (required_of v) given) (nat_le (operands_of v).least 0) refl refl
  where
    go : (l b : Bool) → lacks (required_of v) given ≡ l → nat_le (operands_of v).least 0 ≡ b → Judged (rest v given) []
    go true b e f =
        lacking_at (rest v given) (rest_none v given ∙ ap (λ (b : Bool). if b then Err (stop Missing 0) else operands_at (operands_of v) 0 given []) e) (complete v given fine)
    go false true e f =
        no_fault (rest v given) [] given (behind_none v given e ∙ operands_none (operands_of v) 0 given ∙ ap (λ (b : Bool). if b then Ok given else Err (stop Missing 0)) f)
    go false false e f =
        lacking_at (rest v given) (behind_none v given e ∙ operands_none (operands_of v) 0 given ∙ ap (λ (b : Bool). if b then Ok given else Err (stop Missing 0)) f) (complete v given fine)

-- the first word is no option
operand_judged : (v : Verb) (given : List Given) (word : List ℕ) (words : Words) → IsFine v given → is_operand (role_of v word) ≡ true → Judged (rest v given) (word ∷ words)
operand_judged v given word words fine operand = go (is_dashed word) (lacks (required_of v) given) refl refl
  where
    refused : (b : Bool) → is_dashed word || lacks (required_of v) given ≡ true → Judged (rest v given) (word ∷ words)
    refused b e =
        refused_at (rest v given) word words Unknown (λ h. cc)
        (λ us. rest_operand v given word us operand ∙ ap (λ (b : Bool). if b then Err (stop Unknown (suc (length us))) else operands_at (operands_of v) 0 given (word ∷ us)) e)
        (complete v given fine)

    go : (d l : Bool) → is_dashed word ≡ d → lacks (required_of v) given ≡ l → Judged (rest v given) (word ∷ words)
    go true l e f = refused true (ap (λ (b : Bool). b || lacks (required_of v) given) e)
    go false true e f = refused true (ap₂ (λ (a b : Bool). a || b) e f)
    go false false e f =
        let done = completed v given fine in
        reads_as (rest v given) (operands_at (operands_of v) 0 given) word words (λ us. behind_word v given word us operand e f) (complete v given fine)
        (operands_judged (operands_of v) 0 given (word ∷ words) (small v) (done.more, done.read, done.operands))

-- the first word is an option
option_judged : (v : Verb) (given : List Given) (word : List ℕ) (words : Words) → IsFine v given → is_operand (role_of v word) ≡ false
    → ((more : List Given) → IsFine v more → Judged (rest v more) words)
    → (again (role_of v word) given ≡ false → takes_value (role_of v word) ≡ true → Judged (option_behind v given (role_of v word)) words)
    → Judged (rest v given) (word ∷ words)
option_judged v given word words fine option behind value = go (again (role_of v word) given) (takes_value (role_of v word)) refl refl
  where
    go : (a t : Bool) → again (role_of v word) given ≡ a → takes_value (role_of v word) ≡ t → Judged (rest v given) (word ∷ words)
    go true t e f = refused_at (rest v given) word words Repeated (λ h. cc) (λ us. rest_option v given word us option ∙ repeated v given (role_of v word) us e) (complete v given fine)
    go false false e f =
        goes_on (rest v given) (rest v (given ++ plain (role_of v word) ∷ [])) word words (λ us. rest_option v given word us option ∙ plain_read v given (role_of v word) us e f)
        (behind (given ++ plain (role_of v word) ∷ []) (fine_plain v given (role_of v word) fine))
    go false true e f = goes_on (rest v given) (option_behind v given (role_of v word)) word words (λ us. rest_option v given word us option) (value e f)

-- the value of an option
value_judged : (v : Verb) (given : List Given) (word next : List ℕ) (words : Words) → IsFine v given → again (role_of v word) given ≡ false → takes_value (role_of v word) ≡ true
    → ((more : List Given) → IsFine v more → Judged (rest v more) words) → Judged (option_behind v given (role_of v word)) (next ∷ words)
value_judged v given word next words fine once some behind = go (value_at (value_form (role_of v word)) next) refl (bad_value (value_form (role_of v word)) next)
  where
    go : (r : Result Value Why) → value_at (value_form (role_of v word)) next ≡ r → IsSound (λ x. Unit {0}) r → Judged (option_behind v given (role_of v word)) (next ∷ words)
    go (Err why) e sound =
        refused_at (option_behind v given (role_of v word)) next words why (λ h. cc) (λ us. value_bad v given (role_of v word) next us why once some e) (complete_value v given word fine once some)
    go (Ok x) e sound =
        goes_on (option_behind v given (role_of v word)) (rest v (given ++ valued (role_of v word) x ∷ [])) next words (λ us. value_read v given (role_of v word) next us x once some e)
        (behind (given ++ valued (role_of v word) x ∷ []) (fine_valued v given word next x e fine))

-- what stands behind a command is at fault at the first word that nothing continues
pub rest_judged : (v : Verb) (given : List Given) (words : Words) → IsFine v given → Judged (rest v given) words
rest_judged v given [] fine = none_judged v given fine
rest_judged v given (word ∷ []) fine = go (is_operand (role_of v word)) refl
  where
    go : (b : Bool) → is_operand (role_of v word) ≡ b → Judged (rest v given) (word ∷ [])
    go true e = operand_judged v given word [] fine e
    go false e =
        option_judged v given word [] fine e (λ more fine. none_judged v more fine)
        (λ once some. lacking_at (option_behind v given (role_of v word)) (value_missing v given (role_of v word) once some) (complete_value v given word fine once some))
rest_judged v given (word ∷ next ∷ words) fine =
    two_judged v given word next words fine (λ more fine. rest_judged v more (next ∷ words) fine) (λ more fine. rest_judged v more words fine)
  where
    two_judged : (v : Verb) (given : List Given) (word next : List ℕ) (words : Words) → IsFine v given → ((more : List Given) → IsFine v more → Judged (rest v more) (next ∷ words))
        → ((more : List Given) → IsFine v more → Judged (rest v more) words) → Judged (rest v given) (word ∷ next ∷ words)
    two_judged v given word next words fine one two = go (is_operand (role_of v word)) refl
      where
        go : (b : Bool) → is_operand (role_of v word) ≡ b → Judged (rest v given) (word ∷ next ∷ words)
        go true e = operand_judged v given word (next ∷ words) fine e
        go false e = option_judged v given word (next ∷ words) fine e one (λ once some. value_judged v given word next words fine once some two)
