-- A choice as a list of pairs, and sets of pairs.
use Rattle.std.proofs.Common.{◌≡◌, ℕ, zero, suc, ◌+◌, ◌<◌, ◌≢◌, List, [], ◌∷◌, length, get_or, slice_index, slice_get, take, All, Contains, Some, refl, sym, ap, ◌∙◌, arith}
use Rattle.std.proofs.lemmas.List.Elements.{All-contains, All-cons}
use Rattle.std.proofs.lemmas.Option.{none-some}
use Rattle.ips_refute.specs.declared.nogoods.Pair.{Pair}
use Rattle.ips_refute.specs.Meaning.{IsSubset, OnePerStem, pairs_from, pairs}

abbrev pub pair : ℕ → ℕ → Pair
pair s c = record { stem = s; candidate = c }

pub length-pairs : (first : ℕ) (choice : List ℕ) → length (pairs_from first choice) ≡ length choice
length-pairs first [] = refl
length-pairs first (c ∷ choice) = ap suc (length-pairs (first + 1) choice)

pub get_or-pairs : (first : ℕ) (choice : List ℕ) (i : ℕ) (d : Pair) → i < length choice → get_or (pairs_from first choice) i d ≡ pair (first + i) (slice_index choice i)
get_or-pairs first [] i d h = absurd (omega arith)
get_or-pairs first (c ∷ choice) zero d h = ap (λ n. pair n c) (omega arith)
get_or-pairs first (c ∷ choice) (suc i) d h =
    let le : i < length choice = omega arith in
    get_or-pairs (first + 1) choice i d le ∙ ap (λ n. pair n (slice_index choice i)) (omega arith)

pub OnePerStem-pairs : (choice : List ℕ) → OnePerStem (pairs choice)
OnePerStem-pairs choice i j d l h e =
    let hj : j < length choice = omega (arith, length-pairs 0 choice) in
    let hi : i < length choice = omega arith in
    let ei = ap (λ (q : Pair). q.stem) (get_or-pairs 0 choice i d hi) in
    let ej = ap (λ (q : Pair). q.stem) (get_or-pairs 0 choice j d hj) in
    omega (arith, ei, ej, e)

pub Contains-pairs : (choice : List ℕ) (i : ℕ) → i < length choice → Contains (pairs choice) (pair i (slice_index choice i))
Contains-pairs choice i h =
    (i, omega (arith, length-pairs 0 choice), get_or-pairs 0 choice i _ h ∙ ap (λ n. pair n (slice_index choice i)) (omega arith))

-- what a pair of a choice says
pub from_pairs : (choice : List ℕ) (q : Pair) → Contains (pairs choice) q → (q.stem < length choice) × (slice_index choice q.stem ≡ q.candidate)
from_pairs choice q (k, l, e) =
    let h : k < length choice = omega (arith, length-pairs 0 choice) in
    let at : pair (0 + k) (slice_index choice k) ≡ q = sym (get_or-pairs 0 choice k q h) ∙ e in
    let es : k ≡ q.stem = omega (arith, ap (λ (p : Pair). p.stem) at) in
    (omega arith, ap (slice_index choice) (sym es) ∙ ap (λ (p : Pair). p.candidate) at)

pub Within-trans : (a b c : List Pair) → IsSubset a b → IsSubset b c → IsSubset a c
Within-trans a b c f g k d h = All-contains (λ q. Contains c q) b (get_or a k d) g (f k d h)

pub Within-cons : (q : Pair) (few many : List Pair) → Contains many q → IsSubset few many → IsSubset (q ∷ few) many
Within-cons q few many h w = All-cons (λ p. Contains many p) q few h w

pub OnePerStem-cons : (q : Pair) (set : List Pair) → All (λ p. p.stem ≢ q.stem) set → OnePerStem set → OnePerStem (q ∷ set)
OnePerStem-cons q set free one i zero d l h e = absurd (omega arith)
OnePerStem-cons q set free one zero (suc j) d l h e = free j d (omega arith) (sym e)
OnePerStem-cons q set free one (suc i) (suc j) d l h e = one i j d (omega arith) (omega arith) e

pub slice_get-take : {X : Type 0} (i : ℕ) (xs : List X) (j : ℕ) (x : X) → slice_get (take i xs) j ≡ Some x → (j < i) × (slice_get xs j ≡ Some x)
slice_get-take zero xs j x e = absurd (none-some x e)
slice_get-take (suc i) [] j x e = absurd (none-some x e)
slice_get-take (suc i) (y ∷ ys) zero x e = (omega arith, e)
slice_get-take (suc i) (y ∷ ys) (suc j) x e = let r = slice_get-take i ys j x e in (omega (arith, r.0), r.1)
