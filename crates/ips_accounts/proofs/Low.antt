-- Numbers of lines, and their digits.
use Rattle.std.proofs.Common.{◌≡◌, ℕ, ◌<◌, ◌^◌, min, Bool, true, false, cond, ◌&&◌, ◌||◌, eqb, ltb, List, [], ◌∷◌, Option, Some, None, option_map, Result, Ok, Err, unwrap_or, refl, ◌∙◌, ap, subst, arith}
use Rattle.std.specs.List.{list_any}
use Rattle.std.specs.Option.{option_or, option_and_then}
use Rattle.std.specs.Fmt.{decimal}
use Rattle.std.specs.Char.{digit_value}
use Rattle.std.specs.Str.Parse.{AllDigits, digits_value}
use Rattle.std.proofs.lemmas.Fmt.{decimal_is_IsNumeral}
use Rattle.std.proofs.lemmas.Bool.{and_parts, ltb-true}
use Rattle.std.proofs.lemmas.Bool.Decides.{nat_tests}
use Rattle.ips_action.specs.Attrs.{is_same}
use Rattle.ips_action.specs.Check.{IsField}
use Rattle.ips_action.specs.Action.{Fields}
use Rattle.ips_conflict.specs.Key.{first_value}
use Rattle.ips_books.specs.declared.fault.AccountFault.{AccountFault}
use Rattle.ips_books.specs.declared.fault.AccountFault.TheVariants.{IdTaken}
use Rattle.ips_books.specs.Lines.{AccountLine}
use Rattle.ips_books.specs.Accounts.{field, number_in, number_of, line_at}
use Rattle.ips_books.specs.Writing.{is_number_taken}
use Rattle.ips_turnover.specs.Turnover.{number_given}
use Rattle.ips_accounts.specs.Editing.{free_number, standing_number, wanted_number, number_for}

-- ---- numbers are small

number_low : (bytes : List ℕ) (n : ℕ) → number_in bytes ≡ Some n → n < 2 ^ 32
number_low bytes n e = go (is_same bytes (decimal (digits_value 10 bytes)) && ltb (digits_value 10 bytes) (2 ^ 32)) refl e
  where
    go : (t : Bool) → (is_same bytes (decimal (digits_value 10 bytes)) && ltb (digits_value 10 bytes) (2 ^ 32)) ≡ t → (let o : Option ℕ = cond t (Some (digits_value 10 bytes)) None in o ≡ Some n) → n < 2 ^ 32
    go true h is =
        let lt = ltb-true (digits_value 10 bytes) (2 ^ 32) (and_parts (is_same bytes (decimal (digits_value 10 bytes))) (ltb (digits_value 10 bytes) (2 ^ 32)) h).1 in
        let same : digits_value 10 bytes ≡ n = cc in
        subst (λ (v : ℕ). v < 2 ^ 32) same lt
    go false h is = absurd cc

pub IfLow : Option ℕ → Type 0
IfLow None = Unit {0}
IfLow (Some n) = n < 2 ^ 32

in_low : (bytes : List ℕ) → IfLow (number_in bytes)
unfolding IfLow
in_low bytes = go (number_in bytes) refl
  where
    go : (o : Option ℕ) → number_in bytes ≡ o → IfLow o
    go None e = tt
    go (Some n) e = number_low bytes n e

pub given_low : (key : List ℕ) (a : Fields) → IfLow (number_given key a)
unfolding IfLow
given_low key a = go (first_value key a)
  where
    go : (o : Option (List ℕ)) → IfLow (option_and_then number_in o)
    go None = tt
    go (Some bytes) = in_low bytes

or_zero : (o : Option ℕ) → IfLow o → unwrap_or o 0 < 2 ^ 32
unfolding IfLow
or_zero None h = omega arith
or_zero (Some n) h = h

standing_low : (lines : List AccountLine) (name : List ℕ) → IfLow (standing_number lines name)
unfolding IfLow
standing_low lines name = go (line_at lines name)
  where
    go : (o : Option AccountLine) → IfLow (option_map (λ line. unwrap_or (number_of line) 0) o)
    go None = tt
    go (Some line) = or_zero (number_of line) (in_low (field 2 line))

least_low : (n : ℕ) → min n 4294967295 < 2 ^ 32
least_low n = omega arith

wanted_low : (free : ℕ) (id standing : Option ℕ) → free < 2 ^ 32 → IfLow id → IfLow standing → unwrap_or (option_or id standing) free < 2 ^ 32
unfolding IfLow
wanted_low free None None lt hi hs = lt
wanted_low free None (Some n) lt hi hs = hs
wanted_low free (Some n) standing lt hi hs = hi

pub for_low : (lines : List AccountLine) (name : List ℕ) (id : Option ℕ) (n : ℕ) → IfLow id → number_for lines name id ≡ Ok n → n < 2 ^ 32
for_low lines name id n low e = go (is_number_taken lines name (wanted_number lines name id)) e
  where
    go : (t : Bool) → (let r : Result ℕ AccountFault = cond t (Err (IdTaken (wanted_number lines name id))) (Ok (wanted_number lines name id)) in r ≡ Ok n) → n < 2 ^ 32
    go true h = absurd cc
    go false h =
        let same : wanted_number lines name id ≡ n = cc in
        subst (λ (v : ℕ). v < 2 ^ 32) same (wanted_low (free_number lines) id (standing_number lines name) (least_low _) low (standing_low lines name))

-- ---- digits

digit_plain : (d : ℕ) → digit_value d < 10 → eqb d 58 ≡ false
digit_plain d lt = grind (arith, nat_tests)

digits_plain : (ds : List ℕ) → AllDigits 10 ds → IsField ds
digits_plain [] h = refl
digits_plain (d ∷ ds) h = ap (λ (t : Bool). t || list_any (λ b. eqb b 58) ds) (digit_plain d h.0) ∙ digits_plain ds h.1

pub decimal_plain : (n : ℕ) → n < 2 ^ 32 → IsField (decimal n)
decimal_plain n lt = digits_plain (decimal n) (decimal_is_IsNumeral n (omega (arith, lt))).0.1
