-- The stems in reach of a request: the named ones and the installed ones, and then all that a candidate's dependencies want.
use Rattle.std.specs.Prelude.{◌≡◌, ℕ, ◌<◌, List, [], ◌++◌, map, length, take, Option, Some, None}
use Rattle.std.specs.List.{flat_map}
use Rattle.ips_fmri.specs.Version.{Parts}
use Rattle.ips_depend.specs.Dependency.{Dependency, wanted, stems}
use Rattle.ips_state.specs.State.{Installed}
use Rattle.ips_request.specs.Stems.{firsts}
use Rattle.ips_request.specs.Case.{Case, Naming, Facts, manifest_facts}
use Rattle.ips_request.specs.Candidates.{candidates}

-- the dependencies of what is said
abbrev pub dependencies_said : Option Facts → List Dependency
dependencies_said None = []
dependencies_said (Some facts) = facts.dependencies

-- the dependencies of a candidate, in the order of its manifest; absence has none
abbrev pub dependencies_of : Case → List ℕ → Option Parts → List Dependency
dependencies_of c stem None = []
dependencies_of c stem (Some v) = dependencies_said (manifest_facts c stem v)

-- the stems that dependencies want, in their order
abbrev pub stems_wanted : List Dependency → List (List ℕ)
stems_wanted ds = flat_map (λ d. stems (wanted d)) ds

-- the stems that the candidates of a stem want, candidate by candidate
abbrev pub drawn_in : Case → List ℕ → List (List ℕ)
drawn_in c stem = flat_map (λ o. stems_wanted (dependencies_of c stem o)) (candidates c stem)

-- where the list begins: the named stems in the request's order, then the installed ones
abbrev pub seeds : Case → List (List ℕ)
seeds c = flat_map (λ (n : Naming). n.stems) c.named ++ map (λ (p : Installed). p.stem) c.installed

-- the list once its first k stems were gone through
abbrev pub grown : Case → List (List ℕ) → ℕ → List (List ℕ)
grown c reach k = firsts (seeds c ++ flat_map (drawn_in c) (take k reach))

-- The list of the stems in reach, which grows as it is gone through: each stem stands on it before its turn comes, and once
-- all of them were gone through, nothing more is on it.
pub record IsReach (c : Case) (reach : List (List ℕ)) : Type 0 where
  pub before_turn : (k : ℕ) → k < length reach → k < length (grown c reach k)
  pub whole : reach ≡ grown c reach (length reach)
