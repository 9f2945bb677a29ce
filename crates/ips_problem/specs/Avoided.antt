-- The stems that are avoided from a choice on.
use Rattle.std.specs.Prelude.{◌≡◌, ℕ, ◌↔◌, ◌⊎◌, false, if◌then◌else◌, List, [], ◌∷◌, flat_map, slice_get, Some, None, Contains}
use Rattle.std.specs.List.{list_any}
use Rattle.ips_fmri.specs.declared.fmri.Fmri.{Fmri}
use Rattle.ips_refute.specs.Meaning.{pairs}
use Rattle.ips_depend.specs.Selection.{Selection, is_absent, is_present}
use Rattle.ips_depend.specs.Dependency.{grouped, stems}
use Rattle.ips_state.specs.State.{Ascend}
use Rattle.ips_problem.specs.Posed.{Numbered, Posed, is_number, picked}

-- The stem is missed: a dependency of type group or group-any of what a choice selects names it, none of what that names is present, and
-- the stem is absent.
pub record IsMissed (p : Posed) (choice : List ℕ) (stem : List ℕ) : Type 0 where
  pub test : Numbered
  pub asked : Contains p.tests test
  pub chosen : slice_get choice test.stem ≡ Some test.candidate
  pub named : Contains (stems (grouped test.dependency)) stem
  pub none : list_any (is_present (picked p (pairs choice))) (grouped test.dependency) ≡ false
  pub absent : picked p (pairs choice) stem ≡ None

-- These stems are avoided from a choice on, by their bytes, each once: those that stay avoided, and those that it misses.
pub record AreAvoided (p : Posed) (choice : List ℕ) (stems : List (List ℕ)) : Type 0 where
  pub order : Ascend stems
  pub each : (stem : List ℕ) → Contains stems stem ↔ (Contains p.avoid stem ⊎ IsMissed p choice stem)

-- the FMRI's stem, where it is absent
abbrev pub absent_stem : Selection → Fmri → List (List ℕ)
absent_stem s f = if is_absent s f then f.stem ∷ [] else []

-- the stems of these FMRIs that are absent, where none of the FMRIs is present
abbrev pub missed_among : Selection → List Fmri → List (List ℕ)
missed_among s fs = if list_any (is_present s) fs then [] else flat_map (absent_stem s) fs

-- the stems that a choice misses by this test
abbrev pub missed_by : Posed → List ℕ → Numbered → List (List ℕ)
missed_by p choice n = if is_number (slice_get choice n.stem) n.candidate then missed_among (picked p (pairs choice)) (grouped n.dependency) else []
