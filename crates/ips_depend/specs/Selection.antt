-- What dependencies are judged against: the selected packages, those that were selected before, and the stems that are spared.
use Rattle.std.specs.Prelude.{ℕ, Bool, false, List, Option, Some, None, is_some, is_none, ◌||◌}
use Rattle.ips_fmri.specs.Version.{Parts}
use Rattle.ips_fmri.specs.declared.fmri.Fmri.{Fmri}
use Rattle.ips_depend.specs.Matching.{reaches, admits}

-- A selection tells at which version a stem is selected, and None of a stem that is absent.
abbrev pub Selection : Type 0
Selection = List ℕ → Option Parts

-- The stems that are spared: no group dependency asks for them.
abbrev pub Spared : Type 0
Spared = List ℕ → Bool

-- A version is there, and passes the test.
abbrev pub is_some_that : (Parts → Bool) → Option Parts → Bool
is_some_that test None = false
is_some_that test (Some v) = test v

-- The FMRI's stem is absent.
abbrev pub is_absent : Selection → Fmri → Bool
is_absent s f = is_none (s f.stem)

-- The FMRI's stem is selected, at any version.
abbrev pub is_selected : Selection → Fmri → Bool
is_selected s f = is_some (s f.stem)

-- The FMRI's stem is selected, at a version at least the FMRI's where it has one.
abbrev pub is_present : Selection → Fmri → Bool
is_present s f = is_some_that (reaches f.version) (s f.stem)

-- The FMRI's stem is selected, at a version that incorporates the FMRI's where it has one.
abbrev pub is_within : Selection → Fmri → Bool
is_within s f = is_some_that (admits f.version) (s f.stem)

-- The old selection has no version of the FMRI's stem, or one that is at least the FMRI's where it has one.
abbrev pub is_reached : Selection → Fmri → Bool
is_reached old f = is_absent old f || is_present old f
