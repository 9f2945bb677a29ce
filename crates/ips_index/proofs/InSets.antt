-- Rows put into a set, and taken out of it.
use Rattle.std.proofs.Common.{◌≡◌, ◌⊎◌, inl, inr, Bool, true, false, cond, List, [], ◌∷◌, refl, sym, ◌∙◌, subst, arith}
use Rattle.std.specs.Prelude.{◌↔◌, Contains}
use Rattle.std.specs.declared.cmp.Ordering.{Ordering}
use Rattle.std.specs.declared.cmp.Ordering.TheVariants.{Less, Equal, Greater}
use Rattle.std.specs.Ordering.{is_eq}
use Rattle.std.specs.BTreeSet.{BTreeSet, contains, Updates}
use Rattle.std.proofs.lemmas.Bool.{true≢false, false≢true}
use Rattle.std.proofs.lemmas.Cmp.{tied_itself}
use Rattle.std.specs.List.Sorted.{IsStrictlySortedBy}
use Rattle.std.specs.Cmp.{both_ways}
use Rattle.std.proofs.lemmas.Map.Lookups.{btree_set_from_contains}
use Rattle.std.proofs.lemmas.Map.Views.{btree_set_contains_iff}
use Rattle.ips_index.specs.Rows.{IndexedValue, row_cmp, row_total}
use Rattle.ips_index.proofs.Order.{exact_rows}
use Rattle.ips_index.proofs.Picked.{head_in, tail_in, one_or_rest}

has : (set : BTreeSet IndexedValue) (row : IndexedValue) → (contains row_cmp set row ≡ true) ↔ Contains set.keys row
has set row = btree_set_contains_iff row_total exact_rows set row

-- what the test for a row tells
pub told_in : (set : BTreeSet IndexedValue) (row : IndexedValue) (t : Bool) → t ≡ contains row_cmp set row → t ≡ true → Contains set.keys row
told_in set row t is e = (has set row).0 (sym is ∙ e)

pub told_out : (set : BTreeSet IndexedValue) (row : IndexedValue) (t : Bool) → t ≡ contains row_cmp set row → t ≡ false → Contains set.keys row → ⊥
told_out set row t is e h = true≢false (sym ((has set row).1 h) ∙ sym is ∙ e)

-- the row is the other, or not at its place
apart_or_one : (row other : IndexedValue) → (row ≡ other) ⊎ (is_eq (row_cmp row other) ≡ false)
apart_or_one row other = go (row_cmp row other) refl
  where
    go : (o : Ordering) → row_cmp row other ≡ o → (row ≡ other) ⊎ (is_eq o ≡ false)
    go Less e = inr refl
    go Equal e = inl (exact_rows row other e)
    go Greater e = inr refl

-- a row stands in a list, or it doesn't
pub in_or_not : (rows : List IndexedValue) (row : IndexedValue) → Contains rows row ⊎ (Contains rows row → ⊥)
in_or_not [] row = inr (λ h. absurd (omega (arith, h.1)))
in_or_not (r ∷ rows) row = elim (apart_or_one r row) [
  | inl one ↦ inl (subst (λ (x : IndexedValue). Contains (r ∷ rows) x) one (head_in r rows))
  | inr apart ↦ elim (in_or_not rows row) [
    | inl later ↦ inl (tail_in r row rows later)
    | inr none ↦ inr (λ h. elim (one_or_rest r row rows h) [ inl one ↦ absurd (true≢false (sym (tied one) ∙ apart)) | inr later ↦ none later ])
  ]
]
  where
    tied : r ≡ row → is_eq (row_cmp r row) ≡ true
    tied one = subst (λ (x : IndexedValue). is_eq (row_cmp r x) ≡ true) one (rw (tied_itself row_total r) refl)

pub row_put : (old new : BTreeSet IndexedValue) (row : IndexedValue) → Updates row_cmp old new row true → (other : IndexedValue) → Contains new.keys other ↔ (Contains old.keys other ⊎ (row ≡ other))
row_put old new row updates other = (
  λ h. elim (apart_or_one row other) [ inl one ↦ inr one | inr apart ↦ inl ((has old other).0 (sym (stays apart) ∙ (has new other).1 h)) ],
  λ w. elim w [
    | inl had ↦ (has new other).0 (kept (is_eq (row_cmp row other)) (contains row_cmp old other) (updates.0 other) ((has old other).1 had))
    | inr one ↦ subst (λ (r : IndexedValue). Contains new.keys r) one ((has new row).0 updates.1)
  ],
)
  where
    stays : is_eq (row_cmp row other) ≡ false → contains row_cmp new other ≡ contains row_cmp old other
    stays apart = updates.2 other apart

    kept : (tied was : Bool) → contains row_cmp new other ≡ cond tied true was → was ≡ true → contains row_cmp new other ≡ true
    kept true was is h = is
    kept false was is h = is ∙ h

pub row_taken : (old new : BTreeSet IndexedValue) (row : IndexedValue) → Updates row_cmp old new row false → (other : IndexedValue) → Contains new.keys other ↔ (Contains old.keys other × (row ≡ other → ⊥))
row_taken old new row updates other = (
  λ h. elim (apart_or_one row other) [
    | inl one ↦ absurd (false≢true (sym updates.1 ∙ (has new row).1 (subst (λ (r : IndexedValue). Contains new.keys r) (sym one) h)))
    | inr apart ↦ ((has old other).0 (sym (stays apart) ∙ (has new other).1 h), λ one. absurd (true≢false (sym (tied one) ∙ apart)))
  ],
  λ w. elim (apart_or_one row other) [ inl one ↦ absurd (w.1 one) | inr apart ↦ (has new other).0 (stays apart ∙ (has old other).1 w.0) ],
)
  where
    stays : is_eq (row_cmp row other) ≡ false → contains row_cmp new other ≡ contains row_cmp old other
    stays apart = updates.2 other apart

    tied : row ≡ other → is_eq (row_cmp row other) ≡ true
    tied one = subst (λ (r : IndexedValue). is_eq (row_cmp row r) ≡ true) one (rw (tied_itself row_total row) refl)

-- sets of the same rows are one
pub same_rows : (s t : BTreeSet IndexedValue) → IsStrictlySortedBy row_cmp s.keys → IsStrictlySortedBy row_cmp t.keys → ((row : IndexedValue) → Contains s.keys row ↔ Contains t.keys row) → s.keys ≡ t.keys
same_rows s t of_s of_t same =
    btree_set_from_contains row_total s t of_s of_t
    (λ row. both_ways (contains row_cmp s row) (contains row_cmp t row) (λ h. (has t row).1 ((same row).0 ((has s row).0 h))) (λ h. (has s row).1 ((same row).1 ((has t row).0 h))))
    exact_rows
