-- The puzzle of a request: its stems, their candidates, and its tests.
use Rattle.std.specs.Prelude.{◌≡◌, ℕ, ◌+◌, ◌<◌, Bool, false, not, ◌&&◌, ◌==◌, if◌then◌else◌, List, [], ◌∷◌, ◌++◌, map, max, length, position, slice_get, filter, Option, Some, None}
use Rattle.std.specs.List.{list_all, filter_map, AllByRecursion}
use Rattle.std.specs.Option.{option_and_then, is_some}
use Rattle.std.specs.Str.{bytes_eq}
use Rattle.ips_fmri.specs.Version.{Parts}
use Rattle.ips_fmri.specs.declared.fmri.Fmri.{Fmri}
use Rattle.ips_manifest.specs.declared.line.Line.{Line}
use Rattle.ips_refute.specs.declared.nogoods.Pair.{Pair}
use Rattle.ips_refute.specs.Meaning.{Meaning}
use Rattle.ips_depend.specs.Dependency.{Dependency, mentions}
use Rattle.ips_depend.specs.Selection.{Selection, Spared}
use Rattle.ips_depend.specs.Holds.{holds}
use Rattle.ips_request.specs.Case.{Case, Facts, installed_version, is_named, manifest_facts}
use Rattle.ips_request.specs.Candidates.{candidates, is_spared, installs}
use Rattle.ips_problem.specs.Reach.{dependencies_of}

-- ---- what a puzzle consists of

-- A candidate other than absence: a version, and the lines of its manifest.
pub record Offer : Type 0 where
  pub version : Parts
  pub lines : List Line

-- A stem in reach: the version at which it is installed before the request, whether it is spared, and its candidates in order, absence
-- as None.
pub record StemRow : Type 0 where
  pub before : Option Parts
  pub spared : Bool
  pub candidates : List (Option Offer)

-- A test: the dependency of a candidate of a stem, each by its number.
pub record Numbered : Type 0 where
  pub stem : ℕ
  pub candidate : ℕ
  pub dependency : Dependency

-- The stems in reach, what is known of each, the tests by their numbers, and the stems that stay avoided.
pub record Posed : Type 0 where
  pub stems : List (List ℕ)
  pub rows : List StemRow
  pub tests : List Numbered
  pub avoid : List (List ℕ)

-- ---- the puzzle of a case

-- the lines of what is said
abbrev pub lines_said : Option Facts → List Line
lines_said None = []
lines_said (Some facts) = facts.lines

-- a candidate, as an offer
abbrev pub offer_of : Case → List ℕ → Option Parts → Option Offer
offer_of c stem None = None
offer_of c stem (Some v) = Some (record { version = v; lines = lines_said (manifest_facts c stem v) })

-- what is known of a stem
abbrev pub row_of : Case → List ℕ → StemRow
row_of c stem = record { before = installed_version c stem; spared = is_spared c stem; candidates = map (offer_of c stem) (candidates c stem) }

-- the dependencies of a candidate, each as a test
abbrev pub numbered : ℕ → ℕ → List Dependency → List Numbered
numbered i k ds = map (λ d. record { stem = i; candidate = k; dependency = d }) ds

-- the tests of the candidates of the stem with this number, of which the first candidate has that number
abbrev pub tests_of_candidates : Case → ℕ → List ℕ → ℕ → List (Option Parts) → List Numbered
tests_of_candidates c i stem k [] = []
tests_of_candidates c i stem k (o ∷ os) = numbered i k (dependencies_of c stem o) ++ tests_of_candidates c i stem (k + 1) os

-- the tests of stems, of which the first has this number: stem by stem, candidate by candidate, in the order of manifests
abbrev pub tests_from : Case → ℕ → List (List ℕ) → List Numbered
tests_from c i [] = []
tests_from c i (stem ∷ stems) = tests_of_candidates c i stem 0 (candidates c stem) ++ tests_from c (i + 1) stems

-- the avoided stems that the request doesn't ask for
abbrev pub still_avoided : Case → List (List ℕ)
still_avoided c = filter (λ stem. not (installs c.kind && is_named c stem)) c.avoid

-- the puzzle of a case, with these stems in reach
abbrev pub posed : Case → List (List ℕ) → Posed
posed c reach = record { stems = reach; rows = map (row_of c) reach; tests = tests_from c 0 reach; avoid = still_avoided c }

-- ---- what a puzzle means

-- the candidate that the set has for the stem with this number
abbrev pub candidate_of : List Pair → ℕ → Option ℕ
candidate_of [] i = None
candidate_of (q ∷ set) i = if q.stem == i then Some q.candidate else candidate_of set i

-- the version of an offer; that of absence is None
abbrev pub version_of : Option (Option Offer) → Option Parts
version_of None = None
version_of (Some None) = None
version_of (Some (Some offer)) = Some offer.version

-- the version of the candidate with this number
abbrev pub version_at : Option StemRow → Option ℕ → Option Parts
version_at None k = None
version_at (Some row) None = None
version_at (Some row) (Some k) = version_of (slice_get row.candidates k)

-- the number of a stem
abbrev pub number_of : Posed → List ℕ → Option ℕ
number_of p stem = position (bytes_eq stem) p.stems

-- the selection that a set makes: what has no pair in it, or isn't in reach, is absent
abbrev pub picked : Posed → List Pair → Selection
picked p set stem = option_and_then (λ i. version_at (slice_get p.rows i) (candidate_of set i)) (number_of p stem)

-- the version that a stem had before, by what is known of it
abbrev pub version_before : Option StemRow → Option Parts
version_before None = None
version_before (Some row) = row.before

-- the old selection, as far as it is in reach
abbrev pub before : Posed → Selection
before p stem = option_and_then (λ i. version_before (slice_get p.rows i)) (number_of p stem)

-- what is known of a stem tells that it is spared
abbrev pub tells_spared : Option StemRow → Bool
tells_spared None = false
tells_spared (Some row) = row.spared

-- a stem with this number is spared
abbrev pub spared_at : Posed → Option ℕ → Bool
spared_at p None = false
spared_at p (Some i) = tells_spared (slice_get p.rows i)

-- what is spared, as far as it is in reach
abbrev pub spared : Posed → Spared
spared p stem = spared_at p (number_of p stem)

-- the stems of a test: its own, and those that it mentions, where they are in reach
abbrev pub stems_of_test : Posed → Numbered → List ℕ
stems_of_test p n = n.stem ∷ filter_map (λ (f : Fmri). number_of p f.stem) (mentions n.dependency)

-- the greatest of the numbers
abbrev pub greatest_of : List ℕ → ℕ
greatest_of [] = 0
greatest_of (i ∷ numbers) = max i (greatest_of numbers)

-- the candidate is this one
abbrev pub is_number : Option ℕ → ℕ → Bool
is_number None k = false
is_number (Some j) k = j == k

-- the set has a pair for each of the stems
abbrev pub decides : List Pair → List ℕ → Bool
decides set numbers = list_all (λ i. is_some (candidate_of set i)) numbers

-- The set breaks the test: it has the test's candidate, and decides all its stems, and the dependency doesn't hold.
abbrev pub breaks : Posed → List Pair → Numbered → Bool
breaks p set n =
    is_number (candidate_of set n.stem) n.candidate
    && decides set (stems_of_test p n)
    && not (holds (picked p set) (before p) (spared p) n.dependency)

-- the set breaks the test, where there is one
abbrev pub breaks_at : Posed → List Pair → Option Numbered → Bool
breaks_at p set None = false
breaks_at p set (Some n) = breaks p set n

-- the greatest stem of the test, where there is one
abbrev pub last_at : Posed → Option Numbered → ℕ
last_at p None = 0
last_at p (Some n) = greatest_of (stems_of_test p n)

-- how many candidates a stem has
abbrev pub count_at : Option StemRow → ℕ
count_at None = 0
count_at (Some row) = length row.candidates

-- what the puzzle asks: a candidate for each stem in reach, such that no dependency of a chosen candidate fails
abbrev pub meaning_of : Posed → Meaning
meaning_of p = record {
  stems = length p.stems;
  candidates = λ i. count_at (slice_get p.rows i);
  tests = length p.tests;
  last = λ t. last_at p (slice_get p.tests t);
  breaks = λ t set. breaks_at p set (slice_get p.tests t);
}

-- There is a row for each stem, and each test is of one of them.
pub record IsFormed (p : Posed) : Type 0 where
  pub rows : length p.rows ≡ length p.stems
  pub tests : AllByRecursion (λ (n : Numbered). n.stem < length p.stems) p.tests
