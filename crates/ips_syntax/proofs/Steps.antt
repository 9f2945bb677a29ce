-- How the reading of options goes on.
use Rattle.std.specs.Prelude.{if◌then◌else◌}
use Rattle.std.proofs.Common.{◌≡◌, ℕ, suc, Bool, true, false, List, [], ◌∷◌, ◌++◌, length, Result, Ok, Err, refl, sym}
use Rattle.ips_text.specs.declared.refusal.Stop.{Stop}
use Rattle.ips_text.specs.Reading.{◌>>=◌}
use Rattle.ips_syntax.specs.declared.table.Why.{Why}
use Rattle.ips_syntax.specs.declared.table.Why.TheVariants.{Missing, Repeated}
use Rattle.ips_syntax.specs.declared.table.Verb.{Verb}
use Rattle.ips_syntax.specs.declared.values.Value.{Value}
use Rattle.ips_syntax.specs.declared.values.Given.{Given}
use Rattle.ips_syntax.specs.Table.{value_form}
use Rattle.ips_syntax.specs.Values.{value_at}
use Rattle.ips_syntax.specs.Reading.{stop, stopping, is_operand, role_of, again, takes_value, plain, valued, option_at, options_at}

-- what is read behind the first option
abbrev After : Type 0
After = Result (List Given × List (List ℕ)) (Stop Why)

-- one word alone
last_word : (o a t : Bool) (first more : List Given × List (List ℕ)) (e f : Stop Why) (k : List Given × List (List ℕ) → After) → k more ≡ Ok more
    → (if o then Ok first else (if a then Err e else (if t then Err f else Ok more))) ≡ (if o then Ok first else ((if a then Err e else (if t then Err f else Ok more)) >>= k))
last_word true a t first more e f k is = refl
last_word false true t first more e f k is = refl
last_word false false true first more e f k is = refl
last_word false false false first more e f k is = sym is

-- a value, and what is read behind it
behind_value : (left : ℕ) (r : Result Value Why) (given : Value → List Given) (words : List (List ℕ)) (k : List Given × List (List ℕ) → After)
    → (stopping left r >>= λ v. k (given v, words)) ≡ ((stopping left r >>= λ v. Ok (given v, words)) >>= k)
behind_value left (Ok v) given words k = refl
behind_value left (Err why) given words k = refl

-- two words or more
first_word : (o a t : Bool) (first : After) (e : Stop Why) (x y z : After) (p : After) (k : List Given × List (List ℕ) → After) → x ≡ (y >>= k) → z ≡ (p >>= k)
    → (if o then first else (if a then Err e else (if t then x else z))) ≡ (if o then first else ((if a then Err e else (if t then y else p)) >>= k))
first_word true a t first e x y z p k one two = refl
first_word false true t first e x y z p k one two = refl
first_word false false true first e x y z p k one two = one
first_word false false false first e x y z p k one two = two

-- the options behind the first word
pub options_more : (verb : Verb) (given : List Given) (word : List ℕ) (words : List (List ℕ))
    → options_at verb given (word ∷ words) ≡ (if is_operand (role_of verb word) then Ok (given, word ∷ words) else (option_at (role_of verb word) given words >>= λ x. options_at verb x.0 x.1))
unfolding options_at
options_more verb given word [] =
    let r = role_of verb word in
    last_word (is_operand r) (again r given) (takes_value r) (given, word ∷ []) (given ++ plain r ∷ [], []) (stop Repeated 1) (stop Missing 0) (λ x. options_at verb x.0 x.1) refl
options_more verb given word (next ∷ words) =
    let r = role_of verb word in
    first_word (is_operand r) (again r given) (takes_value r) (Ok (given, word ∷ next ∷ words)) (stop Repeated (suc (suc (length words))))
    (stopping (suc (length words)) (value_at (value_form r) next) >>= λ v. options_at verb (given ++ valued r v ∷ []) words)
    (stopping (suc (length words)) (value_at (value_form r) next) >>= λ v. Ok (given ++ valued r v ∷ [], words))
    (options_at verb (given ++ plain r ∷ []) (next ∷ words))
    (Ok (given ++ plain r ∷ [], next ∷ words))
    (λ x. options_at verb x.0 x.1)
    (behind_value (suc (length words)) (value_at (value_form r) next) (λ v. given ++ valued r v ∷ []) words (λ x. options_at verb x.0 x.1)) refl

-- no word
pub options_none : (verb : Verb) (given : List Given) → options_at verb given [] ≡ Ok (given, [])
unfolding options_at
options_none verb given = refl
