-- The best selection is one.
use Rattle.std.proofs.Common.{◌≡◌, ℕ, true, false, List, [], ◌∷◌, length, refl, sym, subst, ◌∙◌, inl, inr, arith, bytes_eq}
use Rattle.std.proofs.lemmas.Bool.{both_ways, cases_Bool, or_cases}
use Rattle.std.proofs.lemmas.Option.{same_Some}
use Rattle.ips_search.specs.Best.{NotLater}
use Rattle.ips_depend.specs.Selection.{Selection}
use Rattle.ips_request.specs.Stems.{has}
use Rattle.ips_request.specs.Case.{Case}
use Rattle.ips_request.proofs.StemLists.{same_stem}
use Rattle.ips_problem.specs.Selecting.{AreCandidateNumbers, IsBestSelection}
use Rattle.ips_problem.proofs.Solving.{length_numbers}

-- numbers of which neither come later are the same
neither_later : (xs ys : List ℕ) → length xs ≡ length ys → NotLater xs ys → NotLater ys xs → xs ≡ ys
neither_later [] [] l h g = refl
neither_later [] (y ∷ ys) l h g = absurd (omega arith)
neither_later (x ∷ xs) [] l h g = absurd (omega arith)
neither_later (x ∷ xs) (y ∷ ys) l (inl h) (inl g) = absurd (omega arith)
neither_later (x ∷ xs) (y ∷ ys) l (inl h) (inr g) = let same = g.0 in absurd (omega arith)
neither_later (x ∷ xs) (y ∷ ys) l (inr h) (inl g) = let same = h.0 in absurd (omega arith)
neither_later (x ∷ xs) (y ∷ ys) l (inr h) (inr g) = let rest = neither_later xs ys (omega arith) h.1 g.1 in λ i. h.0 i ∷ rest i

-- the same numbers are those of the same candidates
same_candidates : (c : Case) (s t : Selection) (stems : List (List ℕ)) (numbers : List ℕ) (x : List ℕ) → AreCandidateNumbers c s stems numbers → AreCandidateNumbers c t stems numbers → has x stems ≡ true → s x ≡ t x
same_candidates c s t [] numbers x a b h = absurd (both_ways false refl h)
same_candidates c s t (stem ∷ stems) [] x a b h = absurd a
same_candidates c s t (stem ∷ stems) (k ∷ numbers) x a b h = elim (or_cases (bytes_eq x stem) (has x stems) h) [
  | inl e ↦ subst (λ y. s y ≡ t y) (sym (same_stem x stem e)) (same_Some (s stem) (t stem) (sym a.0 ∙ b.0))
  | inr r ↦ same_candidates c s t stems numbers x a.1 b.1 r
]

-- two best selections give each stem the same
pub one_selection : (c : Case) (reach : List (List ℕ)) (s t : Selection) → IsBestSelection c reach s → IsBestSelection c reach t → (stem : List ℕ) → s stem ≡ t stem
one_selection c reach s t a b x = elim (cases_Bool (has x reach)) [
  | inl h ↦
      let long = length_numbers c s reach a.numbers a.numbered ∙ sym (length_numbers c t reach b.numbers b.numbered) in
      let one = neither_later a.numbers b.numbers long (a.first t b.numbers b.admissible b.within b.numbered) (b.first s a.numbers a.admissible a.within a.numbered) in
      same_candidates c s t reach b.numbers x (subst (AreCandidateNumbers c s reach) one a.numbered) b.numbered h
  | inr h ↦ a.within x h ∙ sym (b.within x h)
]
