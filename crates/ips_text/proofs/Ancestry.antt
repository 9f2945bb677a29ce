-- Paths at, above and below one another.
use Rattle.std.proofs.Common.{◌≡◌, ℕ, suc, Bool, true, false, cond, ◌+◌, ◌-◌, ◌<◌, ◌≤◌, ◌==◌, List, [], ◌∷◌, ◌++◌, length, take, get_or, Option, Some, None, refl, sym, ◌∙◌, ap, subst, arith}
use Rattle.std.proofs.lemmas.Bool.{and_parts, and_from, eqb-true, eq-eqb, ne_eqb, false_from_ne_true}
use Rattle.std.proofs.Math.Seq.{take-length}
use Rattle.std.proofs.lemmas.List.{take_more}
use Rattle.ips_text.specs.Ancestry.{same_path, covers, parent, behind}

pub same_path-true : (p q : List ℕ) → same_path p q ≡ true → p ≡ q
same_path-true [] [] e = refl
same_path-true [] (b ∷ q) e = cc
same_path-true (a ∷ p) [] e = cc
same_path-true (a ∷ p) (b ∷ q) e =
    let parts = and_parts (a == b) (same_path p q) e in
    let first = eqb-true a b parts.0 in
    let rest = same_path-true p q parts.1 in
    cc

pub same_path-self : (p : List ℕ) → same_path p p ≡ true
same_path-self [] = refl
same_path-self (a ∷ p) = and_from (a == a) (same_path p p) (eq-eqb a a refl) (same_path-self p)

pub covers-self : (p : List ℕ) → covers p p ≡ true
covers-self [] = refl
covers-self (a ∷ p) = and_from (a == a) (covers p p) (eq-eqb a a refl) (covers-self p)

-- what isn't covered is another path
pub uncovered : (p q : List ℕ) → covers p q ≡ false → same_path p q ≡ false
uncovered p q e = false_from_ne_true (same_path p q) (λ same. let is = same_path-true p q same in let self = covers-self p in absurd (let swapped : covers p q ≡ true = ap (λ (x : List ℕ). covers p x) (sym is) ∙ self in cc))

pub covers_length : (p q : List ℕ) → covers p q ≡ true → length p ≤ length q
covers_length [] q e = omega arith
covers_length (a ∷ p) [] e = cc
covers_length (a ∷ p) (b ∷ q) e = omega (arith, covers_length p q (and_parts (a == b) (covers p q) e).1)

pub parent_length : (p q : List ℕ) → parent p ≡ Some q → length q < length p
parent_length [] q e = cc
parent_length (a ∷ p) q e = go (parent p) (parent_length p) e
  where
    last : (b : Bool) → cond b (Some []) None ≡ Some q → length q < suc (length p)
    last true is = let none : q ≡ [] = cc in omega (arith, ap length none)
    last false is = cc

    go : (o : Option (List ℕ)) → ((r : List ℕ) → o ≡ Some r → length r < length p) → behind a o ≡ Some q → length q < suc (length p)
    go (Some r) shorter s = let shape : q ≡ a ∷ r = cc in omega (arith, shorter r refl, ap length shape)
    go None shorter s = last (a == 47) s

-- no path is at or above its own parent
pub covers-parent : (p q : List ℕ) → parent p ≡ Some q → covers p q ≡ false
covers-parent p q e = false_from_ne_true (covers p q) (λ covered. omega (arith, covers_length p q covered, parent_length p q e))

pub covers_trans : (p q r : List ℕ) → covers p q ≡ true → covers q r ≡ true → covers p r ≡ true
covers_trans [] [] r pq qr = qr
covers_trans [] (b ∷ q) [] pq qr = cc
covers_trans [] (b ∷ q) (c ∷ r) pq qr = subst (λ (x : ℕ). (x == 47) ≡ true) (eqb-true b c (and_parts _ _ qr).0) pq
covers_trans (a ∷ p) [] r pq qr = cc
covers_trans (a ∷ p) (b ∷ q) [] pq qr = cc
covers_trans (a ∷ p) (b ∷ q) (c ∷ r) pq qr =
    let x = and_parts _ _ pq in
    let y = and_parts _ _ qr in
    and_from _ _ (eq-eqb a c (eqb-true a b x.0 ∙ eqb-true b c y.0)) (covers_trans p q r x.1 y.1)

pub covers_short : (p q : List ℕ) → covers p q ≡ true → length q ≤ length p → same_path p q ≡ true
covers_short [] [] c le = refl
covers_short [] (b ∷ q) c le = absurd (omega arith)
covers_short (a ∷ p) [] c le = cc
covers_short (a ∷ p) (b ∷ q) c le = let x = and_parts _ _ c in and_from _ _ x.0 (covers_short p q x.1 (omega arith))

-- what is strictly above a path isn't below it
pub above : (a p : List ℕ) → covers a p ≡ true → same_path a p ≡ false → covers p a ≡ false
above a p c s = false_from_ne_true _ (λ back. let same = covers_short a p c (covers_length p a back) in absurd (cc))

-- what is strictly above a path is at or above its parent
pub record AtParent (a p : List ℕ) : Type 0 where
  pub dir : List ℕ
  pub is : parent p ≡ Some dir
  pub up : covers a dir ≡ true

pub at_parent_of : (a p : List ℕ) → covers a p ≡ true → same_path a p ≡ false → AtParent a p
at_parent_of [] [] c s = cc
at_parent_of [] (b ∷ p) c s = go (parent p) refl
  where
    go : (o : Option (List ℕ)) → parent p ≡ o → AtParent [] (b ∷ p)
    go (Some r) is = record { dir = b ∷ r; is = ap (behind b) is; up = c }
    go None is = record { dir = []; is = ap (behind b) is ∙ rw c refl; up = refl }
at_parent_of (x ∷ a) [] c s = cc
at_parent_of (x ∷ a) (y ∷ p) c s =
    let parts = and_parts _ _ c in
    let apart : same_path a p ≡ false = false_from_ne_true _ (λ same. let both = and_from (x == y) (same_path a p) parts.0 same in absurd (cc)) in
    let rest = at_parent_of a p parts.1 apart in
    record { dir = y ∷ rest.dir; is = ap (behind y) rest.is; up = and_from _ _ parts.0 rest.up }

-- a path covers itself, under whatever name
pub same_covers : (p q : List ℕ) → same_path p q ≡ true → covers p q ≡ true
same_covers p q s = ap (covers p) (sym (same_path-true p q s)) ∙ covers-self p

-- ---- the parent, found from the end

pub parent_cut : (p : List ℕ) → parent (p ++ 47 ∷ []) ≡ Some p
parent_cut [] = refl
parent_cut (a ∷ p) = ap (behind a) (parent_cut p)

pub parent_on : (p : List ℕ) (c : ℕ) → (c == 47) ≡ false → parent (p ++ c ∷ []) ≡ parent p
parent_on [] c e = rw e refl
parent_on (a ∷ p) c e = ap (behind a) (parent_on p c e)

-- a list is all but its last element, and that
last_apart : (p : List ℕ) → 0 < length p → p ≡ take (length p - 1) p ++ get_or p (length p - 1) 0 ∷ []
last_apart p some =
    let before : length p - 1 < length p = omega arith in
    let all : length p - 1 + 1 ≡ length p = omega arith in
    sym (take-length p) ∙ ap (λ (n : ℕ). take n p) (sym all) ∙ take_more p (length p - 1) 0 before

pub parent_here : (p : List ℕ) → 0 < length p → get_or p (length p - 1) 0 ≡ 47 → parent p ≡ Some (take (length p - 1) p)
parent_here p some e = ap parent (last_apart p some) ∙ ap (λ (b : ℕ). parent (take (length p - 1) p ++ b ∷ [])) e ∙ parent_cut (take (length p - 1) p)

pub parent_before : (p : List ℕ) → 0 < length p → (get_or p (length p - 1) 0 ≡ 47 → ⊥) → parent (take (length p - 1) p) ≡ parent p
parent_before p some ne = sym (ap parent (last_apart p some) ∙ parent_on (take (length p - 1) p) (get_or p (length p - 1) 0) (ne_eqb (get_or p (length p - 1) 0) 47 ne))

-- a path is covered by its parent
-- a directory covers what it holds
pub parent_covers : (p q : List ℕ) → parent p ≡ Some q → covers q p ≡ true
parent_covers [] q e = cc
parent_covers (a ∷ p) q e = go (parent p) (parent_covers p) e
  where
    last : (b : Bool) → (a == 47) ≡ b → cond b (Some []) None ≡ Some q → covers q (a ∷ p) ≡ true
    last true is e = let none : q ≡ [] = cc in rw none is
    last false is e = cc

    go : (o : Option (List ℕ)) → ((r : List ℕ) → o ≡ Some r → covers r p ≡ true) → behind a o ≡ Some q → covers q (a ∷ p) ≡ true
    go (Some r) up s = let shape : q ≡ a ∷ r = cc in rw shape (and_from (a == a) (covers r p) (eq-eqb a a refl) (up r refl))
    go None up s = last (a == 47) refl s
