-- Numbers in decimal digits, alone and joined by dots.
use Rattle.std.proofs.Common.{◌≡◌, ℕ, zero, suc, ◌<◌, ◌≤◌, ◌^◌, Bool, true, false, eqb, ltb, IsTrue, List, [], ◌∷◌, map, length, get_or, MatchBool, refl, sym, ◌∙◌, ap, subst, arith}
use Rattle.std.specs.Prelude.{All}
use Rattle.std.specs.Char.{digit_value}
use Rattle.std.specs.Str.Parse.{AllDigits}
use Rattle.std.proofs.lemmas.List.Elements.{All-from_recursion}
use Rattle.std.specs.List.{AllByRecursion, AllWithin, HoldsAt, slice_split, join_with_byte}
use Rattle.std.specs.Fmt.{decimal}
use Rattle.std.proofs.lemmas.Bool.{eqb-true, ltb-true, ltb-false}
use Rattle.std.proofs.lemmas.Fmt.{decimal_injective, decimal_is_IsNumeral}
use Rattle.std.proofs.lemmas.List.Splits.{join_with_byte-slice_split, slice_split_at, slice_split_none, length-slice_split}
use Rattle.ips_fmri.specs.Version.{AreNumbers, numerals}
use Rattle.ips_action.specs.Check.{IsNumber, IsNumerals, IsId}

pub id_is : (value : List ℕ) (n : ℕ) (t : Bool) → value ≡ decimal n → n < 2 ^ 64 → ltb n (2 ^ 32) ≡ t → (IsTrue t → IsId value) × (IsId value → IsTrue t)
id_is value n true spelled fits e = (λ _. (n, ltb-true _ _ e, spelled), λ _. refl)
id_is value n false spelled fits e =
    let large : 2 ^ 32 ≤ n = ltb-false _ _ e in
    (λ h. absurd cc, λ w. let same : w.0 ≡ n = decimal_injective w.0 n (omega (arith, w.1)) fits (sym w.2 ∙ spelled) in absurd (omega (arith, w.1)))

-- a digit is no dot
pub no_dot : (b : ℕ) (t : Bool) → eqb b 46 ≡ t → digit_value b < 10 → t ≡ false
no_dot b true e lt = let P : ℕ → Type 0 = λ x. digit_value x < 10 in absurd (omega (arith, subst P (eqb-true b 46 e) lt))
no_dot b false e lt = refl

pub digits_dotless : (ds : List ℕ) → AllDigits 10 ds → AllByRecursion (λ b. eqb b 46 ≡ false) ds
digits_dotless [] h = tt
digits_dotless (d ∷ ds) h = (no_dot d (eqb d 46) refl h.0, digits_dotless ds h.1)

pub dotless : (n : ℕ) → n < 2 ^ 64 → All (λ b. eqb b 46 ≡ false) (decimal n)
dotless n fits = All-from_recursion (λ b. eqb b 46 ≡ false) (decimal n) (digits_dotless (decimal n) (decimal_is_IsNumeral n fits).0.1)

split_numerals : (n : ℕ) (ns : List ℕ) → AreNumbers (n ∷ ns) → slice_split (λ b. eqb b 46) (numerals (n ∷ ns)) ≡ map decimal (n ∷ ns)
split_numerals n [] h = slice_split_none (λ b. eqb b 46) (decimal n) (dotless n h)
split_numerals n (m ∷ ns) h =
    slice_split_at (λ b. eqb b 46) (decimal n) 46 (numerals (m ∷ ns)) (dotless n h.0) refl ∙ ap (λ (l : List (List ℕ)). decimal n ∷ l) (split_numerals m ns h.1)

abbrev Read : List (List ℕ) → Type 0
Read parts = (n : ℕ) × (ns : List ℕ) × AreNumbers (n ∷ ns) × (map decimal (n ∷ ns) ≡ parts)

read_one : (part : List ℕ) → IsNumber part → Read (part ∷ [])
read_one part h = (h.0, [], h.1, ap (λ (l : List ℕ). l ∷ []) (sym h.2))

read_more : (part : List ℕ) (parts : List (List ℕ)) → IsNumber part → Read parts → Read (part ∷ parts)
read_more part parts h r = (h.0, r.0 ∷ r.1, (h.1, r.2), ap (λ (l : List ℕ). l ∷ map decimal (r.0 ∷ r.1)) (sym h.2) ∙ ap (λ (l : List (List ℕ)). part ∷ l) r.3)

-- parts that are numbers
read_all : (part : List ℕ) (parts : List (List ℕ)) → ((k : ℕ) → k < suc (length parts) → IsNumber (get_or (part ∷ parts) k [])) → Read (part ∷ parts)
read_all part [] h = read_one part (h 0 (omega arith))
read_all part (next ∷ parts) h = read_more part (next ∷ parts) (h 0 (omega arith)) (read_all next parts (λ k lt. h (suc k) (omega arith)))

all_numbers : (parts : List (List ℕ)) → 0 < length parts → ((k : ℕ) → k < length parts → IsNumber (get_or parts k [])) → (ns : List ℕ) × AreNumbers ns × (map decimal ns ≡ parts)
all_numbers [] some h = absurd (omega arith)
all_numbers (part ∷ parts) some h = let all = read_all part parts h in (all.0 ∷ all.1, all.2, all.3)

first_fits : (n : ℕ) (ns : List ℕ) → AreNumbers (n ∷ ns) → n < 2 ^ 64
first_fits n [] h = h
first_fits n (m ∷ ns) h = h.0

number_at_all : (ns : List ℕ) → AreNumbers ns → (k : ℕ) (d : List ℕ) → k < length (map decimal ns) → IsNumber (get_or (map decimal ns) k d)
number_at_all [] h k d lt = absurd h
number_at_all (n ∷ ns) h zero d lt = (n, first_fits n ns h, refl)
number_at_all (n ∷ []) h (suc k) d lt = absurd (omega arith)
number_at_all (n ∷ m ∷ ns) h (suc k) d lt = number_at_all (m ∷ ns) h.1 k d (omega arith)

split_all : (ns : List ℕ) → AreNumbers ns → slice_split (λ b. eqb b 46) (numerals ns) ≡ map decimal ns
split_all [] h = absurd h
split_all (n ∷ ns) h = split_numerals n ns h

not_numerals : (value : List ℕ) → ((k : ℕ) × (k < length (slice_split (λ b. eqb b 46) value)) × HoldsAt (λ part. IsNumber part → ⊥) (slice_split (λ b. eqb b 46) value) k) → IsNumerals value → ⊥
not_numerals value h w =
    let split : slice_split (λ b. eqb b 46) value ≡ map decimal w.0 = ap (slice_split (λ b. eqb b 46)) w.2 ∙ split_all w.0 w.1 in
    let P : List (List ℕ) → Type 0 = λ l. (k : ℕ) × (k < length l) × HoldsAt (λ part. IsNumber part → ⊥) l k in
    let at = subst P split h in
    at.2 [] (number_at_all w.0 w.1 at.0 [] at.1)

pub numerals_are : (value : List ℕ) (t : Bool) → MatchBool t (AllWithin IsNumber (slice_split (λ b. eqb b 46) value) 0 (length (slice_split (λ b. eqb b 46) value)))
    ((k : ℕ) × (k < length (slice_split (λ b. eqb b 46) value)) × HoldsAt (λ part. IsNumber part → ⊥) (slice_split (λ b. eqb b 46) value) k)
    → (IsTrue t → IsNumerals value) × (IsNumerals value → IsTrue t)
numerals_are value true h =
    let all = all_numbers (slice_split (λ b. eqb b 46) value) (omega (arith, length-slice_split (λ b. eqb b 46) value)) (λ k lt. h k [] (omega arith) lt) in
    (λ _. (all.0, all.1, sym (join_with_byte-slice_split 46 value) ∙ ap (join_with_byte 46) (sym all.2)), λ _. refl)
numerals_are value false h = (λ e. absurd cc, λ w. absurd (not_numerals value h w))
