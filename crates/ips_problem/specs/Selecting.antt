-- Which selections are admissible, and which of them is the best.
use Rattle.std.specs.Prelude.{◌≡◌, ℕ, true, false, if◌then◌else◌, List, [], ◌∷◌, Some, None, slice_get, Contains}
use Rattle.std.specs.List.{AllByRecursion}
use Rattle.ips_search.specs.Best.{NotLater}
use Rattle.ips_depend.specs.Selection.{Selection}
use Rattle.ips_depend.specs.Holds.{holds}
use Rattle.ips_request.specs.Stems.{has}
use Rattle.ips_request.specs.Case.{Case, installed_version}
use Rattle.ips_request.specs.Candidates.{candidates, is_spared}
use Rattle.ips_problem.specs.Reach.{dependencies_of}

-- A selection gives every stem, in reach or not, one of its candidates, and each dependency of what it selects holds.
pub record IsAdmissible (c : Case) (s : Selection) : Type 0 where
  pub offered : (stem : List ℕ) → Contains (candidates c stem) (s stem)
  pub holds : (stem : List ℕ) → AllByRecursion (λ d. holds s (installed_version c) (is_spared c) d ≡ true) (dependencies_of c stem (s stem))

-- the selection with every stem absent that isn't among these
abbrev pub restricted : List (List ℕ) → Selection → Selection
restricted reach s stem = if has stem reach then s stem else None

-- no stem but these is selected
abbrev pub IsWithin : List (List ℕ) → Selection → Type 0
IsWithin reach s = (stem : List ℕ) → has stem reach ≡ false → s stem ≡ None

-- the numbers of the candidates that a selection gives these stems, one by one
abbrev pub AreCandidateNumbers : Case → Selection → List (List ℕ) → List ℕ → Type 0
AreCandidateNumbers c s [] [] = Unit {0}
AreCandidateNumbers c s [] (k ∷ numbers) = ⊥
AreCandidateNumbers c s (stem ∷ stems) [] = ⊥
AreCandidateNumbers c s (stem ∷ stems) (k ∷ numbers) = (slice_get (candidates c stem) k ≡ Some (s stem)) × AreCandidateNumbers c s stems numbers

-- The best selection: it is admissible, selects only stems in reach, and its numbers of candidates in the order of reach come
-- first, number by number, among those of all such selections.
pub record IsBestSelection (c : Case) (reach : List (List ℕ)) (s : Selection) : Type 0 where
  pub admissible : IsAdmissible c s
  pub within : IsWithin reach s
  pub numbers : List ℕ
  pub numbered : AreCandidateNumbers c s reach numbers
  pub first : (other : Selection) (others : List ℕ) → IsAdmissible c other → IsWithin reach other → AreCandidateNumbers c other reach others → NotLater numbers others
