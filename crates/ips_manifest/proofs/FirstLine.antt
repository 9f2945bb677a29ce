-- The first line of a text.
use Rattle.std.proofs.Common.{◌≡◌, ℕ, suc, ◌+◌, ◌-◌, ◌≤◌, Bool, true, false, cond, not, eqb, ltb, List, [], ◌∷◌, length, take, drop, Some, None, refl, ap, arith}
use Rattle.std.proofs.Math.Numerals.{one-add, add-one}
use Rattle.std.proofs.lemmas.List.{take_all, take_rest, drop_all}
use Rattle.std.specs.List.{position_or_len, position}
use Rattle.ips_manifest.specs.Logical.{physical_lines, into_first}

abbrev end_of : List ℕ → ℕ
end_of bytes = position_or_len (λ b. eqb b 10) bytes

with_byte : (b : ℕ) (bytes : List ℕ) (ends : Bool) → into_first b (physical_lines bytes) ≡ (b ∷ take (end_of bytes) bytes) ∷ physical_lines (drop (suc (end_of bytes)) bytes)
    → cond ends ([] ∷ physical_lines bytes) (into_first b (physical_lines bytes)) ≡ take (cond (not ends) (1 + end_of bytes) 0) (b ∷ bytes) ∷ physical_lines (drop (suc (cond (not ends) (1 + end_of bytes) 0)) (b ∷ bytes))
with_byte b bytes true later = refl
with_byte b bytes false later = rw one-add later

-- the first line ends at the first newline, or at the end of the text
first_line : (b : ℕ) (bytes : List ℕ) → physical_lines (b ∷ bytes) ≡ take (end_of (b ∷ bytes)) (b ∷ bytes) ∷ physical_lines (drop (suc (end_of (b ∷ bytes))) (b ∷ bytes))
first_line b [] = with_byte b [] (eqb b 10) refl
first_line b (c ∷ bytes) = with_byte b (c ∷ bytes) (eqb b 10) (ap (into_first b) (first_line c bytes))

-- where there is a newline
pub line_before : (bytes : List ℕ) (end : ℕ) → position (λ b. eqb b 10) bytes ≡ Some end → physical_lines bytes ≡ take end bytes ∷ physical_lines (take (length bytes - (end + 1)) (drop (end + 1) bytes))
line_before [] end e = cc
line_before (b ∷ bytes) end e = go (ltb (end_of (b ∷ bytes)) (length (b ∷ bytes))) e
  where
    go : (within : Bool) → cond within (Some (end_of (b ∷ bytes))) None ≡ Some end → physical_lines (b ∷ bytes) ≡ take end (b ∷ bytes) ∷ physical_lines (take (length (b ∷ bytes) - (end + 1)) (drop (end + 1) (b ∷ bytes)))
    go true e = let here : end_of (b ∷ bytes) ≡ end = cc in rw take_rest (rw add-one (rw here at (first_line b bytes)))
    go false e = cc

-- where there is none
pub last_line : (bytes : List ℕ) → position (λ b. eqb b 10) bytes ≡ None → eqb (length bytes) 0 ≡ false → physical_lines bytes ≡ bytes ∷ []
last_line [] e some = cc
last_line (b ∷ bytes) e some = go (ltb (end_of (b ∷ bytes)) (length (b ∷ bytes))) refl e
  where
    go : (within : Bool) → ltb (end_of (b ∷ bytes)) (length (b ∷ bytes)) ≡ within → cond within (Some (end_of (b ∷ bytes))) None ≡ None → physical_lines (b ∷ bytes) ≡ (b ∷ bytes) ∷ []
    go true is e = cc
    go false is e =
        let far : length (b ∷ bytes) ≤ end_of (b ∷ bytes) = grind arith in
        rw (take_all (end_of (b ∷ bytes)) (b ∷ bytes) far, drop_all (suc (end_of (b ∷ bytes))) (b ∷ bytes) (omega arith)) at (first_line b bytes)
