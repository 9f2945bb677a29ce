-- What a puzzle means: the numbers of stems, candidates and tests, and which sets of pairs break which test.
use Rattle.std.specs.Prelude.{◌≡◌, ℕ, ◌+◌, ◌<◌, ◌≤◌, ◌≢◌, Bool, true, false, List, [], ◌∷◌, length, slice_index, All, AllPairs, Contains}
use Rattle.ips_refute.specs.declared.nogoods.Pair.{Pair}

-- how many stems there are, how many candidates each has, how many tests there are, and which sets of pairs break them
pub record Meaning : Type 0 where
  pub stems : ℕ
  pub candidates : ℕ → ℕ
  pub tests : ℕ
  -- the greatest stem of a test
  pub last : ℕ → ℕ
  -- the set decides all stems of the test, and the test is false
  pub breaks : ℕ → List Pair → Bool

-- each pair of the first set is in the second
abbrev pub IsSubset : List Pair → List Pair → Type 0
IsSubset few many = All (λ q. Contains many q) few

-- no two pairs are of one stem
abbrev pub OnePerStem : List Pair → Type 0
OnePerStem set = AllPairs (λ p q. p.stem ≢ q.stem) set

-- the pairs stand by ascending stem, each stem once
abbrev pub Ascends : List Pair → Type 0
Ascends set = AllPairs (λ p q. p.stem < q.stem) set

-- the pair is of a stem of the puzzle and one of that stem's candidates
abbrev pub IsOffered : Meaning → Pair → Type 0
IsOffered m q = (q.stem < m.stems) × (q.candidate < m.candidates q.stem)

-- a test is a fact about the pairs of its stems, the greatest of which is `last`
pub record Lawful (m : Meaning) : Type 0 where
  pub known : (t : ℕ) → t < m.tests → m.last t < m.stems
  pub decided : (t : ℕ) (set : List Pair) → t < m.tests → OnePerStem set → m.breaks t set ≡ true → (q : Pair) × Contains set q × (q.stem ≡ m.last t)
  pub keeps : (t : ℕ) (set other : List Pair) → t < m.tests → OnePerStem set → OnePerStem other → m.breaks t set ≡ true → All (λ q. q.stem ≤ m.last t → Contains other q) set → m.breaks t other ≡ true

-- a choice of candidates for the first stems, from number `first` on, as pairs
abbrev pub pairs_from : ℕ → List ℕ → List Pair
pairs_from first [] = []
pairs_from first (c ∷ choice) = record { stem = first; candidate = c } ∷ pairs_from (first + 1) choice

-- a choice of candidates for the first stems, as pairs
abbrev pub pairs : List ℕ → List Pair
pairs choice = pairs_from 0 choice

-- the set breaks no test
abbrev pub BreaksNone : Meaning → List Pair → Type 0
BreaksNone m set = (t : ℕ) → t < m.tests → m.breaks t set ≡ false

-- one candidate for each of the first stems, such that no test whose stems are all decided is broken
pub record IsBeginning (m : Meaning) (choice : List ℕ) : Type 0 where
  pub fits : length choice ≤ m.stems
  pub offered : (i : ℕ) → i < length choice → slice_index choice i < m.candidates i
  pub holds : BreaksNone m (pairs choice)

-- a choice for all stems that breaks no test
abbrev pub Solves : Meaning → List ℕ → Type 0
Solves m choice = (length choice ≡ m.stems) × IsBeginning m choice

-- no choice for all stems breaks no test
abbrev pub HasNoChoice : Meaning → Type 0
HasNoChoice m = (choice : List ℕ) → Solves m choice → ⊥
