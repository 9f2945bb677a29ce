-- The last act of each sort, and no other, is `Finished`.
use Rattle.std.proofs.Common.{◌≡◌, ℕ, zero, suc, ◌+◌, ◌<◌, Bool, true, false, not, ◌&&◌, List, [], ◌∷◌, length, Some, slice_get, refl, sym, ◌∙◌, ap, arith}
use Rattle.std.proofs.lemmas.Bool.{and_parts, not-true}
use Rattle.ips_steps.specs.declared.step.Sort.{Sort}
use Rattle.ips_steps.specs.declared.step.Sort.TheVariants as sort
use Rattle.ips_kinds.specs.Acts.{acts}
use Rattle.ips_kinds.specs.declared.kind.Act.{Act}
use Rattle.ips_kinds.specs.declared.kind.Act.TheVariants.{Clear, MakeDir, MakeLink, MakeHard, SetMode, Finished}

abbrev is_finished : Act → Bool
is_finished Clear = false
is_finished MakeDir = false
is_finished MakeLink = false
is_finished MakeHard = false
is_finished SetMode = false
is_finished Finished = true

finished_is : (act : Act) → is_finished act ≡ true → act ≡ Finished
finished_is Clear is = cc
finished_is MakeDir is = cc
finished_is MakeLink is = cc
finished_is MakeHard is = cc
finished_is SetMode is = cc
finished_is Finished is = refl

-- the last act, and no other, is the end
abbrev ends : List Act → Bool
ends [] = false
ends (x ∷ []) = is_finished x
ends (x ∷ y ∷ xs) = not (is_finished x) && ends (y ∷ xs)

acts_end : (s : Sort) → ends (acts s) ≡ true
acts_end sort.Gone = refl
acts_end sort.Fresh = refl
acts_end sort.Mode = refl
acts_end sort.Put = refl
acts_end sort.Link = refl
acts_end sort.Hard = refl

last_of : (xs : List Act) (n : ℕ) → ends xs ≡ true → slice_get xs n ≡ Some Finished → n + 1 ≡ length xs
last_of [] n end is = cc
last_of (x ∷ []) zero end is = omega arith
last_of (x ∷ []) (suc n) end is = cc
last_of (x ∷ y ∷ xs) zero end is =
    let same : x ≡ Finished = cc in
    let other = not-true _ (and_parts (not (is_finished x)) (ends (y ∷ xs)) end).0 in
    let bad : is_finished x ≡ true = ap is_finished same in
    cc
last_of (x ∷ y ∷ xs) (suc n) end is = omega (arith, last_of (y ∷ xs) n (and_parts (not (is_finished x)) (ends (y ∷ xs)) end).1 is)

more_of : (xs : List Act) (n : ℕ) (act : Act) → ends xs ≡ true → slice_get xs n ≡ Some act → (act ≡ Finished → ⊥) → n + 1 < length xs
more_of [] n act end is other = cc
more_of (x ∷ []) zero act end is other = let same : x ≡ act = cc in absurd (other (sym same ∙ finished_is x end))
more_of (x ∷ []) (suc n) act end is other = cc
more_of (x ∷ y ∷ xs) zero act end is other = omega arith
more_of (x ∷ y ∷ xs) (suc n) act end is other = omega (arith, more_of (y ∷ xs) n act (and_parts (not (is_finished x)) (ends (y ∷ xs)) end).1 is other)

pub finished_last : (s : Sort) (n : ℕ) → slice_get (acts s) n ≡ Some Finished → n + 1 ≡ length (acts s)
finished_last s n is = last_of (acts s) n (acts_end s) is

pub goes_on : (s : Sort) (n : ℕ) (act : Act) → slice_get (acts s) n ≡ Some act → (act ≡ Finished → ⊥) → n + 1 < length (acts s)
goes_on s n act is other = more_of (acts s) n act (acts_end s) is other
