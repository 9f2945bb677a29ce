-- The order of choices.
use Rattle.std.proofs.Common.{◌≡◌, ℕ, zero, suc, ◌+◌, ◌<◌, ◌≤◌, ◌⊎◌, inl, inr, Bool, false, ◌||◌, List, [], ◌∷◌, ◌++◌, length, get_or, slice_index, take, refl, sym, ap, ◌∙◌, arith, nat_lt, nat_eq, le-ltb, ne_eqb}
use Rattle.std.proofs.lemmas.Bool.{cases_order, and_left, and_right}
use Rattle.ips_refute.specs.declared.nogoods.Pair.{Pair}
use Rattle.ips_refute.specs.Meaning.{IsSubset, pairs}
use Rattle.ips_refute.proofs.Choices.{get_or-pairs, length-pairs, pair}
use Rattle.ips_search.specs.Best.{NotLater}
use Rattle.ips_search.specs.Beginnings.{later}

-- the choice begins with these numbers
abbrev pub Begins : List ℕ → List ℕ → Type 0
Begins [] choice = Unit {0}
Begins (a ∷ p) [] = ⊥
Begins (a ∷ p) (b ∷ choice) = (a ≡ b) × Begins p choice

or_both : (x y : Bool) → x ≡ false → y ≡ false → (x || y) ≡ false
or_both x y e f = ap (λ z. z || y) e ∙ f

pub later-NotLater : (p w : List ℕ) → NotLater p w → later p w ≡ false
later-NotLater [] w h = refl
later-NotLater (a ∷ p) [] h = refl
later-NotLater (a ∷ p) (b ∷ w) (inl lt) = or_both (nat_lt b a) _ (le-ltb b a (omega arith)) (and_left (nat_eq a b) (later p w) (ne_eqb a b (λ e. omega arith)))
later-NotLater (a ∷ p) (b ∷ w) (inr (e, h)) = or_both (nat_lt b a) _ (le-ltb b a (omega arith)) (and_right (nat_eq a b) (later p w) (later-NotLater p w h))

pub NotLater-prefix : (p q w : List ℕ) → NotLater (p ++ q) w → NotLater p w
NotLater-prefix [] q w h = tt
NotLater-prefix (a ∷ p) q [] h = tt
NotLater-prefix (a ∷ p) q (b ∷ w) (inl lt) = inl lt
NotLater-prefix (a ∷ p) q (b ∷ w) (inr (e, h)) = inr (e, NotLater-prefix p q w h)

-- one stem deeper, at its first candidate
pub NotLater-down : (p w : List ℕ) → NotLater p w → NotLater (p ++ 0 ∷ []) w
NotLater-down [] [] h = tt
NotLater-down [] (zero ∷ w) h = inr (refl, tt)
NotLater-down [] (suc b ∷ w) h = inl (omega arith)
NotLater-down (a ∷ p) [] h = tt
NotLater-down (a ∷ p) (b ∷ w) (inl lt) = inl lt
NotLater-down (a ∷ p) (b ∷ w) (inr (e, h)) = inr (e, NotLater-down p w h)

-- the next candidate, or the choice begins with this one
pub NotLater-next : (p : List ℕ) (c : ℕ) (w : List ℕ) → NotLater (p ++ c ∷ []) w → NotLater (p ++ (c + 1) ∷ []) w ⊎ Begins (p ++ c ∷ []) w
NotLater-next [] c [] h = inl tt
NotLater-next [] c (b ∷ w) (inl lt) = elim (cases_order (c + 1) b) [
  | inl e ↦ inl (inr (e, tt))
  | inr o ↦ elim o [ inl l ↦ inl (inl l) | inr g ↦ absurd (omega arith) ]
]
NotLater-next [] c (b ∷ w) (inr (e, h)) = inr (e, tt)
NotLater-next (a ∷ p) c [] h = inl tt
NotLater-next (a ∷ p) c (b ∷ w) (inl lt) = inl (inl lt)
NotLater-next (a ∷ p) c (b ∷ w) (inr (e, h)) = elim (NotLater-next p c w h) [ inl n ↦ inl (inr (e, n)) | inr g ↦ inr (e, g) ]

-- a choice stands no later than itself, and a whole place that is not later than a choice of as many stems
pub Begins-length : (p w : List ℕ) → Begins p w → length p ≤ length w
Begins-length [] w h = omega arith
Begins-length (a ∷ p) [] h = absurd h
Begins-length (a ∷ p) (b ∷ w) h = let r = Begins-length p w h.1 in omega (arith, r)

pub Begins-at : (p w : List ℕ) → Begins p w → (i : ℕ) → i < length p → slice_index p i ≡ slice_index w i
Begins-at [] w h i l = absurd (omega arith)
Begins-at (a ∷ p) [] h i l = absurd h
Begins-at (a ∷ p) (b ∷ w) h zero l = h.0
Begins-at (a ∷ p) (b ∷ w) h (suc i) l = Begins-at p w h.1 i (omega arith)

pub Within-begins : (p w : List ℕ) → Begins p w → IsSubset (pairs p) (pairs w)
Within-begins p w h k d l =
    let lp : k < length p = omega (arith, length-pairs 0 p) in
    let lw : k < length w = omega (arith, Begins-length p w h) in
    let at : get_or (pairs p) k d ≡ get_or (pairs w) k d =
    get_or-pairs 0 p k d lp ∙ ap (λ c. pair (0 + k) c) (Begins-at p w h k lp) ∙ sym (get_or-pairs 0 w k d lw) in
    (k, omega (arith, length-pairs 0 w), ap (λ (q : Pair). get_or (pairs w) k q) refl ∙ get_or-pairs 0 w k _ lw ∙ sym (get_or-pairs 0 w k d lw) ∙ sym at)

pub Begins-take : (i : ℕ) (p : List ℕ) → Begins (take i p) p
Begins-take zero p = tt
Begins-take (suc i) [] = tt
Begins-take (suc i) (a ∷ p) = (refl, Begins-take i p)
