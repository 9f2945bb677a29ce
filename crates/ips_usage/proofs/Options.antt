-- The options of a command, and what stands behind them.
use Rattle.std.proofs.Common.{◌≡◌, ℕ, suc, Bool, true, false, List, [], ◌∷◌, ◌++◌, length, Result, Ok, Err, refl, ◌∙◌, ap, ap₂}
use Rattle.std.specs.Prelude.{if◌then◌else◌}
use Rattle.ips_text.specs.declared.refusal.Stop.{Stop}
use Rattle.ips_text.specs.Reading.{◌>>=◌}
use Rattle.ips_syntax.specs.declared.table.Why.{Why}
use Rattle.ips_syntax.specs.declared.table.Why.TheVariants.{Missing, Repeated}
use Rattle.ips_syntax.specs.declared.table.Verb.{Verb}
use Rattle.ips_syntax.specs.declared.table.Role.{Role}
use Rattle.ips_syntax.specs.declared.values.Value.{Value}
use Rattle.ips_syntax.specs.declared.values.Given.{Given}
use Rattle.ips_syntax.specs.Table.{value_form}
use Rattle.ips_syntax.specs.Values.{value_at}
use Rattle.ips_syntax.specs.Reading.{stop, stopping, plain, valued, is_operand, role_of, takes_value, again, option_at, options_at, behind_options}
use Rattle.ips_syntax.proofs.Steps.{options_more, options_none}
use Rattle.ips_usage.proofs.Fault.{Words, Reads}

-- what is read of options
abbrev After : Type 0
After = Result (List Given × Words) (Stop Why)

-- options and what stands behind them, where this was given before
abbrev pub rest : Verb → List Given → Reads (List Given)
rest v given words = options_at v given words >>= λ x. behind_options v x.0 x.1

-- what stands behind an option's word
abbrev pub option_behind : Verb → List Given → Role → Reads (List Given)
option_behind v given r words = option_at r given words >>= λ x. rest v x.0 x.1

regrouped : {A B C : Type 0} (r : Result A (Stop Why)) (f : A → Result B (Stop Why)) (g : B → Result C (Stop Why)) → ((r >>= f) >>= g) ≡ (r >>= λ x. f x >>= g)
regrouped (Ok x) f g = refl
regrouped (Err e) f g = refl

-- the first word is no option
pub rest_operand : (v : Verb) (given : List Given) (word : List ℕ) (us : Words) → is_operand (role_of v word) ≡ true → rest v given (word ∷ us) ≡ behind_options v given (word ∷ us)
rest_operand v given word us e =
    ap (λ (r : After). r >>= λ x. behind_options v x.0 x.1)
    (options_more v given word us ∙ ap (λ (b : Bool). if b then Ok (given, word ∷ us) else (option_at (role_of v word) given us >>= λ x. options_at v x.0 x.1)) e)

-- no word is left
pub rest_none : (v : Verb) (given : List Given) → rest v given [] ≡ behind_options v given []
rest_none v given = ap (λ (r : After). r >>= λ x. behind_options v x.0 x.1) (options_none v given)

-- the first word is an option
pub rest_option : (v : Verb) (given : List Given) (word : List ℕ) (us : Words) → is_operand (role_of v word) ≡ false → rest v given (word ∷ us) ≡ option_behind v given (role_of v word) us
rest_option v given word us e =
    ap (λ (r : After). r >>= λ x. behind_options v x.0 x.1)
    (options_more v given word us ∙ ap (λ (b : Bool). if b then Ok (given, word ∷ us) else (option_at (role_of v word) given us >>= λ x. options_at v x.0 x.1)) e)
    ∙ regrouped (option_at (role_of v word) given us) (λ x. options_at v x.0 x.1) (λ x. behind_options v x.0 x.1)

-- an option's word, by whether it may stand and whether it has a value
abbrev by_word : Bool → Bool → Verb → List Given → Role → Words → Result (List Given) (Stop Why)
by_word twice valued_too v given r [] =
    let read : After = if twice then Err (stop Repeated 1) else (if valued_too then Err (stop Missing 0) else Ok (given ++ plain r ∷ [], [])) in
    read >>= λ x. rest v x.0 x.1
by_word twice valued_too v given r (word ∷ words) =
    let read : After =
    if twice then Err (stop Repeated (suc (suc (length words))))
    else (if valued_too then (stopping (suc (length words)) (value_at (value_form r) word) >>= λ x. Ok (given ++ valued r x ∷ [], words)) else Ok (given ++ plain r ∷ [], word ∷ words)) in
    read >>= λ x. rest v x.0 x.1

behind_is : (v : Verb) (given : List Given) (r : Role) (us : Words) → option_behind v given r us ≡ by_word (again r given) (takes_value r) v given r us
behind_is v given r [] = refl
behind_is v given r (word ∷ us) = refl

-- the option may not stand again
pub repeated : (v : Verb) (given : List Given) (r : Role) (us : Words) → again r given ≡ true → option_behind v given r us ≡ Err (stop Repeated (suc (length us)))
repeated v given r [] e = behind_is v given r [] ∙ ap (λ (b : Bool). by_word b (takes_value r) v given r []) e
repeated v given r (word ∷ us) e = behind_is v given r (word ∷ us) ∙ ap (λ (b : Bool). by_word b (takes_value r) v given r (word ∷ us)) e

-- the option stands alone
pub plain_read : (v : Verb) (given : List Given) (r : Role) (us : Words) → again r given ≡ false → takes_value r ≡ false → option_behind v given r us ≡ rest v (given ++ plain r ∷ []) us
plain_read v given r [] once none = behind_is v given r [] ∙ ap₂ (λ (a t : Bool). by_word a t v given r []) once none
plain_read v given r (word ∷ us) once none = behind_is v given r (word ∷ us) ∙ ap₂ (λ (a t : Bool). by_word a t v given r (word ∷ us)) once none

-- its value is missing
pub value_missing : (v : Verb) (given : List Given) (r : Role) → again r given ≡ false → takes_value r ≡ true → option_behind v given r [] ≡ Err (stop Missing 0)
value_missing v given r once some = behind_is v given r [] ∙ ap₂ (λ (a t : Bool). by_word a t v given r []) once some

-- its value is bad
pub value_bad : (v : Verb) (given : List Given) (r : Role) (word : List ℕ) (us : Words) (why : Why) → again r given ≡ false → takes_value r ≡ true → value_at (value_form r) word ≡ Err why
    → option_behind v given r (word ∷ us) ≡ Err (stop why (suc (length us)))
value_bad v given r word us why once some e =
    behind_is v given r (word ∷ us) ∙ ap₂ (λ (a t : Bool). by_word a t v given r (word ∷ us)) once some
    ∙ ap (λ (x : Result Value Why). let read : After = stopping (suc (length us)) x >>= λ y. Ok (given ++ valued r y ∷ [], us) in read >>= λ y. rest v y.0 y.1) e

-- its value is read
pub value_read : (v : Verb) (given : List Given) (r : Role) (word : List ℕ) (us : Words) (x : Value) → again r given ≡ false → takes_value r ≡ true → value_at (value_form r) word ≡ Ok x
    → option_behind v given r (word ∷ us) ≡ rest v (given ++ valued r x ∷ []) us
value_read v given r word us x once some e =
    behind_is v given r (word ∷ us) ∙ ap₂ (λ (a t : Bool). by_word a t v given r (word ∷ us)) once some
    ∙ ap (λ (x : Result Value Why). let read : After = stopping (suc (length us)) x >>= λ y. Ok (given ++ valued r y ∷ [], us) in read >>= λ y. rest v y.0 y.1) e
