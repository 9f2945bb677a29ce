-- Sets that grow and shrink by lists of rows.
use Rattle.std.proofs.Common.{◌⊎◌, inl, inr, ℕ, List, [], ◌∷◌, ◌++◌, ◌≤◌, length, take, drop, true, false, sym, subst, arith}
use Rattle.std.specs.Prelude.{◌↔◌, ◌≡◌, Contains}
use Rattle.std.specs.BTreeSet.{BTreeSet, Updates}
use Rattle.std.proofs.lemmas.List.{take_all, take-append-drop}
use Rattle.std.proofs.lemmas.List.Elements.{Contains-append_left, Contains-push, Contains-push_cases}
use Rattle.ips_index.specs.Rows.{IndexedValue, row_cmp}
use Rattle.ips_index.proofs.InSets.{row_put, row_taken}

-- what was in the set, and these rows
pub Grown : List IndexedValue → List IndexedValue → BTreeSet IndexedValue → Type 0
Grown old rows new = (row : IndexedValue) → Contains new.keys row ↔ (Contains old row ⊎ Contains rows row)

-- what was in the set, but for these rows
pub Shrunk : List IndexedValue → List IndexedValue → BTreeSet IndexedValue → Type 0
Shrunk old rows new = (row : IndexedValue) → Contains new.keys row ↔ (Contains old row × (Contains rows row → ⊥))

-- nothing stands in an empty list
pub none_there : (row : IndexedValue) → Contains [] row → ⊥
none_there row h = absurd (omega (arith, h.1))

pub grown_none : (set : BTreeSet IndexedValue) → Grown set.keys [] set
unfolding Grown
grown_none set row = (λ h. inl h, λ w. elim w [ inl h ↦ h | inr none ↦ absurd (none_there row none) ])

pub grown_more : (first : List IndexedValue) (front : List IndexedValue) (row : IndexedValue) (old new : BTreeSet IndexedValue) → Grown first front old → Updates row_cmp old new row true → Grown first (front ++ row ∷ []) new
unfolding Grown
grown_more first front row old new so_far updates other = (
  λ h. elim ((row_put old new row updates other).0 h) [
    | inl had ↦ elim ((so_far other).0 had) [ inl was ↦ inl was | inr in_front ↦ inr (Contains-append_left front (row ∷ []) other in_front) ]
    | inr one ↦ inr (subst (λ (r : IndexedValue). Contains (front ++ row ∷ []) r) one (Contains-push front row))
  ],
  λ w. (row_put old new row updates other).1 (elim w [
    | inl was ↦ inl ((so_far other).1 (inl was))
    | inr h ↦ elim (Contains-push_cases front row other h) [ inl in_front ↦ inl ((so_far other).1 (inr in_front)) | inr last ↦ inr last ]
  ]),
)

pub shrunk_none : (set : BTreeSet IndexedValue) → Shrunk set.keys [] set
unfolding Shrunk
shrunk_none set row = (λ h. (h, none_there row), λ w. w.0)

pub shrunk_more : (first : List IndexedValue) (front : List IndexedValue) (row : IndexedValue) (old new : BTreeSet IndexedValue) → Shrunk first front old → Updates row_cmp old new row false → Shrunk first (front ++ row ∷ []) new
unfolding Shrunk
shrunk_more first front row old new so_far updates other = (
  λ h. let w = (row_taken old new row updates other).0 h in
      let was = (so_far other).0 w.0 in
      (was.0, λ in_all. elim (Contains-push_cases front row other in_all) [ inl in_front ↦ was.1 in_front | inr last ↦ w.1 last ]),
  λ w. (row_taken old new row updates other).1
      ((so_far other).1 (w.0, λ in_front. w.1 (Contains-append_left front (row ∷ []) other in_front)), λ one. w.1 (subst (λ (r : IndexedValue). Contains (front ++ row ∷ []) r) one (Contains-push front row))),
)

pub shrunk_done : (first rows : List IndexedValue) (i : ℕ) (set : BTreeSet IndexedValue) → length rows ≤ i → Shrunk first (take i rows) set → (row : IndexedValue) → Contains set.keys row ↔ (Contains first row × (Contains rows row → ⊥))
unfolding Shrunk
shrunk_done first rows i set past h = subst (λ (front : List IndexedValue). (row : IndexedValue) → Contains set.keys row ↔ (Contains first row × (Contains front row → ⊥))) (take_all i rows past) h

-- the rows that are left are still to be put in
pub record Going (first all left : List IndexedValue) (set : BTreeSet IndexedValue) : Type 0 where
  pub same : (row : IndexedValue) → (Contains set.keys row ⊎ Contains left row) ↔ (Contains first row ⊎ Contains all row)
  pub kept : (row : IndexedValue) → Contains first row → Contains set.keys row

pub going_first : (set : BTreeSet IndexedValue) (all : List IndexedValue) → Going set.keys all all set
going_first set all = record { same = λ row. (λ h. h, λ h. h); kept = λ row h. h }

pub going_more : (first all left : List IndexedValue) (row : IndexedValue) (old new : BTreeSet IndexedValue) → Going first all (left ++ row ∷ []) old → Updates row_cmp old new row true → Going first all left new
going_more first all left row old new going updates = record {
  same = λ other. (
    λ w. elim w [
      | inl h ↦ elim ((row_put old new row updates other).0 h) [
        | inl had ↦ (going.same other).0 (inl had)
        | inr one ↦ (going.same other).0 (inr (subst (λ (r : IndexedValue). Contains (left ++ row ∷ []) r) one (Contains-push left row)))
      ]
      | inr rest ↦ (going.same other).0 (inr (Contains-append_left left (row ∷ []) other rest))
    ],
    λ w. elim ((going.same other).1 w) [
      | inl had ↦ inl ((row_put old new row updates other).1 (inl had))
      | inr rest ↦ elim (Contains-push_cases left row other rest) [ inl in_left ↦ inr in_left | inr last ↦ inl ((row_put old new row updates other).1 (inr last)) ]
    ],
  );
  kept = λ other h. (row_put old new row updates other).1 (inl (going.kept other h));
}

pub going_only : (first all left : List IndexedValue) (set : BTreeSet IndexedValue) → Going first all left set → (row : IndexedValue) → Contains set.keys row → Contains first row ⊎ Contains all row
going_only first all left set going row h = (going.same row).0 (inl h)

pub going_all : (first all : List IndexedValue) (set : BTreeSet IndexedValue) → Going first all [] set → (row : IndexedValue) → Contains all row → Contains set.keys row
going_all first all set going row h = elim ((going.same row).1 (inr h)) [ inl done ↦ done | inr none ↦ absurd (none_there row none) ]

-- a set that had nothing has just these rows
pub grown_whole : (rows all : List IndexedValue) (set : BTreeSet IndexedValue) → rows ≡ all → Grown [] rows set → (row : IndexedValue) → Contains set.keys row ↔ Contains all row
unfolding Grown
grown_whole rows all set e grown row = (
  λ h. subst (λ (l : List IndexedValue). Contains l row) e (elim ((grown row).0 h) [ inl none ↦ absurd (none_there row none) | inr there ↦ there ]),
  λ h. (grown row).1 (inr (subst (λ (l : List IndexedValue). Contains l row) (sym e) h)),
)

-- ---- what stands in a set that grew by the front of a list

pub grown_kept : (first front : List IndexedValue) (set : BTreeSet IndexedValue) → Grown first front set → (row : IndexedValue) → Contains first row → Contains set.keys row
unfolding Grown
grown_kept first front set grown row h = (grown row).1 (inl h)

pub grown_only : (first rows : List IndexedValue) (i : ℕ) (set : BTreeSet IndexedValue) → Grown first (take i rows) set → (row : IndexedValue) → Contains set.keys row → Contains first row ⊎ Contains rows row
unfolding Grown
grown_only first rows i set grown row h = elim ((grown row).0 h) [ inl had ↦ inl had | inr in_front ↦ inr (taken_in rows i row in_front) ]
  where
    taken_in : (l : List IndexedValue) (n : ℕ) (r : IndexedValue) → Contains (take n l) r → Contains l r
    taken_in l n r there = subst (λ (x : List IndexedValue). Contains x r) (take-append-drop n l) (Contains-append_left (take n l) (drop n l) r there)

pub grown_all : (first rows : List IndexedValue) (i : ℕ) (set : BTreeSet IndexedValue) → length rows ≤ i → Grown first (take i rows) set → (row : IndexedValue) → Contains rows row → Contains set.keys row
unfolding Grown
grown_all first rows i set past grown row h = (grown row).1 (inr (subst (λ (l : List IndexedValue). Contains l row) (sym (take_all i rows past)) h))
