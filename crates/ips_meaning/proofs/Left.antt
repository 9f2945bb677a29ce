-- What is left of a list that is gone through from the front.
use Rattle.std.proofs.Common.{◌≡◌, ℕ, List, [], ◌∷◌, ◌++◌, refl, sym, ap, subst, ◌∙◌, inl, inr}
use Rattle.std.proofs.lemmas.List.{append_assoc, append-nil}
use Rattle.ips_manifest.specs.declared.line.Line.{Line}
use Rattle.ips_conflict.specs.declared.placed.Placed.{Placed}
use Rattle.ips_meaning.specs.Taken.{Leaves}
use Rattle.ips_meaning.specs.Leaving.{LeavesMore}

module _ {A : Type 0} (P : A → Type 0) where
  pub leaves_append : (xs ys a b : List A) → Leaves P xs a → Leaves P ys b → Leaves P (xs ++ ys) (a ++ b)
  leaves_append [] ys a b h k = subst (λ (l : List A). Leaves P ys (l ++ b)) (sym h) k
  leaves_append (x ∷ xs) ys a b h k = elim h [
    | inl w ↦ inl (w.0, (w.1.0 ++ b, leaves_append xs ys w.1.0 b w.1.1 k, ap (λ (l : List A). l ++ b) w.1.2))
    | inr w ↦ inr (w.0, leaves_append xs ys a b w.1 k)
  ]

  one_left : (x : A) → P x → Leaves P (x ∷ []) (x ∷ [])
  one_left x h = inl (h, ([], refl, refl))

  none_left : (x : A) → (P x → ⊥) → Leaves P (x ∷ []) []
  none_left x h = inr (h, refl)

  pub left_with : (xs left next : List A) (x : A) → Leaves P xs left → P x → next ≡ left ++ x ∷ [] → Leaves P (xs ++ x ∷ []) next
  left_with xs left next x so_far h e = subst (Leaves P (xs ++ x ∷ [])) (sym e) (leaves_append xs (x ∷ []) left (x ∷ []) so_far (one_left x h))

  pub left_without : (xs left next : List A) (x : A) → Leaves P xs left → (P x → ⊥) → next ≡ left → Leaves P (xs ++ x ∷ []) next
  left_without xs left next x so_far h e = subst (Leaves P (xs ++ x ∷ [])) (append-nil left ∙ sym e) (leaves_append xs (x ∷ []) left [] so_far (none_left x h))

  -- more is left than of what was there before
  pub more_begun : (old : List A) → LeavesMore P [] old old
  more_begun old = ([], refl, sym (append-nil old))

  pub more_with : (xs old now next : List A) (x : A) → LeavesMore P xs old now → P x → next ≡ now ++ x ∷ [] → LeavesMore P (xs ++ x ∷ []) old next
  more_with xs old now next x so_far h e =
      (so_far.0 ++ x ∷ [], left_with xs so_far.0 (so_far.0 ++ x ∷ []) x so_far.1 h refl, e ∙ ap (λ (l : List A). l ++ x ∷ []) so_far.2 ∙ append_assoc old so_far.0 (x ∷ []))

  pub more_without : (xs old now next : List A) (x : A) → LeavesMore P xs old now → (P x → ⊥) → next ≡ now → LeavesMore P (xs ++ x ∷ []) old next
  more_without xs old now next x so_far h e = (so_far.0, left_without xs so_far.0 so_far.0 x so_far.1 h refl, e ∙ so_far.2)

  pub left_more : (xs ys left next : List A) → Leaves P xs left → LeavesMore P ys left next → Leaves P (xs ++ ys) next
  left_more xs ys left next so_far more = subst (Leaves P (xs ++ ys)) (sym more.2) (leaves_append xs ys left more.0 so_far more.1)

-- the action of a line in its place
abbrev pub placed_by : List ℕ → Line → Placed
placed_by stem line = record { stem = stem; line = line.number; action = line.action }
