-- What the laws of dependencies speak of.
use Rattle.std.specs.Prelude.{◌≡◌, ℕ, ◌⊎◌, List, None, Contains}
use Rattle.ips_depend.specs.Selection.{Selection, Spared}
use Rattle.ips_depend.specs.Dependency.{Dependency, mentions, objects, wanted, stems}

-- The dependency mentions the stem.
abbrev pub IsMentioned : Dependency → List ℕ → Type 0
IsMentioned d stem = Contains (stems (mentions d)) stem

-- The dependency wants the stem.
abbrev pub IsWanted : Dependency → List ℕ → Type 0
IsWanted d stem = Contains (stems (wanted d)) stem

-- Two selections agree at each stem that the dependency mentions, and so do what is spared; and two old ones agree at each stem
-- that it is about.
pub record Agree (d : Dependency) (s t old before : Selection) (spared saved : Spared) : Type 0 where
  pub selected : (stem : List ℕ) → IsMentioned d stem → s stem ≡ t stem
  pub sparing : (stem : List ℕ) → IsMentioned d stem → spared stem ≡ saved stem
  pub earlier : (stem : List ℕ) → Contains (stems (objects d)) stem → old stem ≡ before stem

-- The smaller selection leaves packages out: of the stems that the dependency mentions it may lack those that the dependency
-- doesn't pull in. At all others it has the same version.
abbrev pub DropsUnwanted : Dependency → Selection → Selection → Type 0
DropsUnwanted d smaller s = (stem : List ℕ) → IsMentioned d stem → (smaller stem ≡ s stem) ⊎ ((smaller stem ≡ None) × (IsWanted d stem → ⊥))
