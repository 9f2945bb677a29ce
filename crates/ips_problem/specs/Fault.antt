-- Which manifests the stems in reach need, in which order, and the first that says nothing.
use Rattle.std.specs.Prelude.{◌≡◌, ℕ, ◌<◌, ◌≤◌, true, List, ◌∷◌, ◌++◌, map, length, take, slice_get, sum_by, Some, is_some}
use Rattle.std.specs.List.{flat_map, AllByRecursion}
use Rattle.ips_fmri.specs.Version.{Parts}
use Rattle.ips_filter.specs.Settings.{Set}
use Rattle.ips_repo.specs.Manifest.{manifest_limit}
use Rattle.ips_request.specs.declared.fault.ProblemFault.{ProblemFault}
use Rattle.ips_request.specs.Case.{Case, manifest_facts}
use Rattle.ips_request.specs.Manifests.{Needed, all_manifests_limit, bytes_read, needed, IsManifestFault}
use Rattle.ips_problem.specs.Reach.{grown}

-- the manifests of these versions of a stem
abbrev pub manifests_at : List ℕ → List Parts → List Needed
manifests_at stem versions = map (λ v. record { stem = stem; version = v }) versions

-- the manifests that these stems need, stem by stem
abbrev pub manifests_of : Case → List (List ℕ) → List Needed
manifests_of c stems = flat_map (λ stem. manifests_at stem (needed c stem)) stems

-- how many bytes manifests take from the repository together
abbrev pub all_bytes : Case → List Needed → ℕ
all_bytes c ns = sum_by (bytes_read c) ns

-- Each of the manifests says something, and neither one of them nor all together are too large.
pub record AreRead (c : Case) (ns : List Needed) : Type 0 where
  pub said : AllByRecursion (λ (n : Needed). is_some (manifest_facts c n.stem n.version) ≡ true) ns
  pub each : AllByRecursion (λ (n : Needed). bytes_read c n ≤ manifest_limit) ns
  pub all : all_bytes c ns ≤ all_manifests_limit

-- The first fault of manifests: k stems in reach were gone through without one, and of the next stem all that is needed before
-- this manifest was read. The list of stems had grown so far by then.
pub record IsFirstFault (settings : Set) (c : Case) (why : ProblemFault) : Type 0 where
  pub reach : List (List ℕ)
  pub turn : ℕ
  pub stem : List ℕ
  pub before : List Parts
  pub version : Parts
  pub behind : List Parts
  pub grows : reach ≡ grown c reach turn
  pub on_list : (k : ℕ) → k ≤ turn → k < length (grown c reach k)
  pub at_turn : slice_get reach turn ≡ Some stem
  pub next : needed c stem ≡ before ++ version ∷ behind
  pub read : AreRead c (manifests_of c (take turn reach) ++ manifests_at stem before)
  pub fault : IsManifestFault settings c (all_bytes c (manifests_of c (take turn reach) ++ manifests_at stem before)) (record { stem = stem; version = version }) why
