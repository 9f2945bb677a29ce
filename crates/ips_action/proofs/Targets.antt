-- Paths that are followed part by part.
use Rattle.std.proofs.Common.{◌≡◌, ℕ, suc, ◌+◌, ◌-◌, ◌≤◌, Bool, true, false, cond, eqb, ltb, not, ◌==◌, List, [], ◌∷◌, length, take, drop, Option, Some, None, refl, sym, ap, arith}
use Rattle.std.specs.Prelude.{unwrap_or}
use Rattle.std.specs.List.{position_or_len, onto_first}
use Rattle.std.proofs.lemmas.Bool.{ltb-true, ltb-false}
use Rattle.std.proofs.lemmas.List.{take_all, length-drop}
use Rattle.std.proofs.lemmas.List.Splits.{slice_split_first}
use Rattle.ips_text.specs.Path.{parts}
use Rattle.ips_text.specs.Ancestry.{parent, behind}
use Rattle.ips_action.specs.Target.{holder, above}

-- the parts that are left
abbrev pub parts_left : Option (List ℕ) → List (List ℕ)
parts_left None = []
parts_left (Some bytes) = parts bytes

-- the parent is a beginning of the path
parent_take : (p q : List ℕ) → parent p ≡ Some q → take (length q) p ≡ q
parent_take [] q e = cc
parent_take (a ∷ p) q e = go (parent p) (parent_take p) e
  where
    last : (b : Bool) → cond b (Some []) None ≡ Some q → take (length q) (a ∷ p) ≡ q
    last true is = let none : q ≡ [] = cc in rw none refl
    last false is = cc

    go : (o : Option (List ℕ)) → ((r : List ℕ) → o ≡ Some r → take (length r) p ≡ r) → behind a o ≡ Some q → take (length q) (a ∷ p) ≡ q
    go (Some r) shorter s = let shape : q ≡ a ∷ r = cc in rw shape (ap (λ (l : List ℕ). a ∷ l) (shorter r refl))
    go None shorter s = last (a == 47) s

holder_take : (p : List ℕ) → take (length (holder p)) p ≡ holder p
holder_take p = go (parent p) refl
  where
    go : (o : Option (List ℕ)) → parent p ≡ o → take (length (unwrap_or o [])) p ≡ unwrap_or o []
    go (Some q) e = parent_take p q e
    go None e = refl

-- the directory above is a beginning of this one
pub above_take : (at : List ℕ) → eqb (length at) 0 ≡ false → above at ≡ Some (take (length (holder at)) at)
above_take [] e = cc
above_take (b ∷ at) e = ap (λ (l : List ℕ). Some l) (sym (holder_take (b ∷ at)))

-- the first part ends at the first `/`
pub first_here : (bytes : List ℕ) (i : ℕ) → Some i ≡ cond (ltb (position_or_len (λ b. eqb b 47) bytes) (length bytes)) (Some (position_or_len (λ b. eqb b 47) bytes)) None
    → parts bytes ≡ take i bytes ∷ parts (take (length bytes - (i + 1)) (drop (i + 1) bytes))
first_here bytes i e = go (ltb (position_or_len (λ b. eqb b 47) bytes) (length bytes)) refl e
  where
    go : (t : Bool) → ltb (position_or_len (λ b. eqb b 47) bytes) (length bytes) ≡ t → Some i ≡ cond t (Some (position_or_len (λ b. eqb b 47) bytes)) None
        → parts bytes ≡ take i bytes ∷ parts (take (length bytes - (i + 1)) (drop (i + 1) bytes))
    go true t h =
        let at : i ≡ position_or_len (λ b. eqb b 47) bytes = cc in
        let rest : take (length bytes - (i + 1)) (drop (i + 1) bytes) ≡ drop (i + 1) bytes = take_all (length bytes - (i + 1)) (drop (i + 1) bytes) (omega (arith, length-drop (i + 1) bytes)) in
        rw (rest, at) (slice_split_first (λ b. eqb b 47) bytes 0 (ltb-true _ _ t))
    go false t h = absurd cc

no_slash : (bytes : List ℕ) → length bytes ≤ position_or_len (λ b. eqb b 47) bytes → parts bytes ≡ bytes ∷ []
no_slash [] h = refl
no_slash (b ∷ bytes) h = go (eqb b 47) (no_slash bytes) h
  where
    go : (t : Bool) → (length bytes ≤ position_or_len (λ b. eqb b 47) bytes → parts bytes ≡ bytes ∷ []) → suc (length bytes) ≤ cond (not t) (1 + position_or_len (λ b. eqb b 47) bytes) 0
        → cond t ([] ∷ parts bytes) (onto_first b (parts bytes)) ≡ (b ∷ bytes) ∷ []
    go true rest n = absurd (omega arith)
    go false rest n = rw (rest (omega arith)) refl

-- the only part is the whole
pub first_all : (bytes : List ℕ) → None ≡ cond (ltb (position_or_len (λ b. eqb b 47) bytes) (length bytes)) (Some (position_or_len (λ b. eqb b 47) bytes)) None → parts bytes ≡ bytes ∷ []
first_all bytes e = go (ltb (position_or_len (λ b. eqb b 47) bytes) (length bytes)) refl e
  where
    go : (t : Bool) → ltb (position_or_len (λ b. eqb b 47) bytes) (length bytes) ≡ t → None ≡ cond t (Some (position_or_len (λ b. eqb b 47) bytes)) None → parts bytes ≡ bytes ∷ []
    go true t h = absurd cc
    go false t h = no_slash bytes (ltb-false _ _ t)
