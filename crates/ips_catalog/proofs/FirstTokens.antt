-- A value by its first token.
use Rattle.std.proofs.Common.{◌≡◌, ℕ, zero, ◌-◌, ◌<◌, List, [], ◌∷◌, Option, Some, None, option_map, is_some, true, false, Result, Ok, Err, Bor, refl, ap, ◌∙◌}
use Rattle.std.specs.Prelude.{OnOk}
use Rattle.json.specs.Token as tokens
use Rattle.json.specs.Reads.{token_of}
use Rattle.json.specs.declared.token.Token.{Token}
use Rattle.json.specs.declared.token.Token.TheVariants.{BeginObject, BeginArray, String, Number, Bool, Null}
use Rattle.json.proofs.Grammar.{value_is}
use Rattle.serde_json.specs.Data.{Num, Data, null, boolean, number, string, array, object, Items, Members}
use Rattle.serde_json.specs.Read.{of_json, converted, number_of}
use Rattle.ips_catalog.specs.Outline.{value_at, items_at, members_at, HasKind}
use Rattle.ips_catalog.proofs.Turns.{array_read, array_refused, object_read, object_refused}

-- the value that begins with the token, and the tokens behind it
abbrev pub Passed : ℕ → Token → List tokens.Token → List tokens.Token → Type 0
Passed depth t ts r = (d : Data) × (value_at depth (token_of t ∷ ts) ≡ Some (d, r)) × HasKind t d

pub nothing_refused : (depth : ℕ) (ts : List tokens.Token) → ts ≡ [] → value_at depth ts ≡ None
nothing_refused depth ts is = ap (value_at depth) is ∙ ap (converted of_json) (value_is depth [])

pub string_is : (depth : ℕ) (ts : List tokens.Token) (t : Token) (s : Bor (List ℕ)) → t ≡ String s → value_at depth (token_of t ∷ ts) ≡ Some (string s.now, ts)
string_is depth ts t s is = ap (λ (u : Token). value_at depth (token_of u ∷ ts)) is ∙ ap (converted of_json) (value_is depth (tokens.string s.now ∷ ts))

pub string_passed : (depth : ℕ) (ts : List tokens.Token) (t : Token) (s : Bor (List ℕ)) → t ≡ String s → Passed depth t ts ts
string_passed depth ts t s is = (
  string s.now,
  string_is depth ts t s is,
  record { object = λ _. refl; array = λ _. refl; text = λ no. absurd (no s is) },
)

pub boolean_passed : (depth : ℕ) (ts : List tokens.Token) (t : Token) (b : _) → t ≡ Bool b → Passed depth t ts ts
boolean_passed depth ts t b is = (
  boolean b,
  ap (λ (u : Token). value_at depth (token_of u ∷ ts)) is ∙ ap (converted of_json) (value_is depth (tokens.boolean b ∷ ts)),
  record { object = λ _. refl; array = λ _. refl; text = λ _. refl },
)

pub null_passed : (depth : ℕ) (ts : List tokens.Token) (t : Token) → t ≡ Null → Passed depth t ts ts
null_passed depth ts t is = (
  null,
  ap (λ (u : Token). value_at depth (token_of u ∷ ts)) is ∙ ap (converted of_json) (value_is depth (tokens.null ∷ ts)),
  record { object = λ _. refl; array = λ _. refl; text = λ _. refl },
)

number_is : (depth : ℕ) (ts : List tokens.Token) (t : Token) (s : Bor (List ℕ)) → t ≡ Number s → value_at depth (token_of t ∷ ts) ≡ option_map (λ (d : Data). (d, ts)) (option_map number (number_of s.now))
number_is depth ts t s is = ap (λ (u : Token). value_at depth (token_of u ∷ ts)) is ∙ ap (converted of_json) (value_is depth (tokens.number s.now ∷ ts))

pub number_passed : (depth : ℕ) (ts : List tokens.Token) (t : Token) (s : Bor (List ℕ)) (n : Num) → t ≡ Number s → number_of s.now ≡ Some n → Passed depth t ts ts
number_passed depth ts t s n is e = (
  number n,
  number_is depth ts t s is ∙ ap (λ (o : Option Num). option_map (λ (d : Data). (d, ts)) (option_map number o)) e,
  record { object = λ _. refl; array = λ _. refl; text = λ _. refl },
)

pub number_fails : (depth : ℕ) (ts : List tokens.Token) (t : Token) (s : Bor (List ℕ)) → t ≡ Number s → number_of s.now ≡ None → value_at depth (token_of t ∷ ts) ≡ None
number_fails depth ts t s is e = number_is depth ts t s is ∙ ap (λ (o : Option Num). option_map (λ (d : Data). (d, ts)) (option_map number o)) e

pub some_number : (o : Option Num) → is_some o ≡ true → (n : Num) × (o ≡ Some n)
some_number None e = absurd cc
some_number (Some n) e = (n, refl)

pub no_number : (o : Option Num) → is_some o ≡ false → o ≡ None
no_number None e = refl
no_number (Some n) e = absurd cc

pub array_passed : (depth : ℕ) (ts r : List tokens.Token) (t : Token) (is : Items) → t ≡ BeginArray → 0 < depth → items_at (depth - 1) ts ≡ Some (is, r) → Passed depth t ts r
array_passed depth ts r t is begins some e = (
  array is,
  ap (λ (u : Token). value_at depth (token_of u ∷ ts)) begins ∙ array_read depth ts r is some e,
  record { object = λ _. refl; array = λ no. absurd (no begins); text = λ _. refl },
)

pub object_passed : (depth : ℕ) (ts r : List tokens.Token) (t : Token) (ms : Members) → t ≡ BeginObject → 0 < depth → members_at (depth - 1) ts ≡ Some (ms, r) → Passed depth t ts r
object_passed depth ts r t ms begins some e = (
  object ms,
  ap (λ (u : Token). value_at depth (token_of u ∷ ts)) begins ∙ object_read depth ts r ms some e,
  record { object = λ no. absurd (no begins); array = λ _. refl; text = λ _. refl },
)

pub array_fails : (depth : ℕ) (ts : List tokens.Token) (t : Token) → t ≡ BeginArray → 0 < depth → items_at (depth - 1) ts ≡ None → value_at depth (token_of t ∷ ts) ≡ None
array_fails depth ts t begins some e = ap (λ (u : Token). value_at depth (token_of u ∷ ts)) begins ∙ array_refused depth ts some e

pub object_fails : (depth : ℕ) (ts : List tokens.Token) (t : Token) → t ≡ BeginObject → 0 < depth → members_at (depth - 1) ts ≡ None → value_at depth (token_of t ∷ ts) ≡ None
object_fails depth ts t begins some e = ap (λ (u : Token). value_at depth (token_of u ∷ ts)) begins ∙ object_refused depth ts some e

pub array_too_deep : (depth : ℕ) (ts : List tokens.Token) (t : Token) → t ≡ BeginArray → depth ≡ 0 → value_at depth (token_of t ∷ ts) ≡ None
array_too_deep depth ts t begins none =
    ap (λ (u : Token). value_at depth (token_of u ∷ ts)) begins ∙ ap (λ (n : ℕ). value_at n (tokens.begin_array ∷ ts)) none ∙ ap (converted of_json) (value_is zero (tokens.begin_array ∷ ts))

pub object_too_deep : (depth : ℕ) (ts : List tokens.Token) (t : Token) → t ≡ BeginObject → depth ≡ 0 → value_at depth (token_of t ∷ ts) ≡ None
object_too_deep depth ts t begins none =
    ap (λ (u : Token). value_at depth (token_of u ∷ ts)) begins ∙ ap (λ (n : ℕ). value_at n (tokens.begin_object ∷ ts)) none ∙ ap (converted of_json) (value_is zero (tokens.begin_object ∷ ts))

-- what follows where something was answered
pub on_ok : {X E P Q : Type 0} (r : Result X E) → (P → Q) → OnOk r P → OnOk r Q
on_ok (Ok x) f h = f h
on_ok (Err e) f h = tt
