-- What an image records, and in which order.
use Rattle.std.specs.Prelude.{◌≡◌, ℕ, IsTrue, List, map, Option, is_some}
use Rattle.std.specs.List.{AllByRecursion}
use Rattle.std.specs.List.Sorted.{IsStrictlySortedBy}
use Rattle.std.specs.Ordering.{nat_cmp}
use Rattle.std.specs.Cmp.Lexicographic.{slice_cmp}
use Rattle.ips_fmri.specs.Version.{Parts}
use Rattle.ips_fmri.specs.declared.fmri.Fmri.{Fmri}
use Rattle.ips_manifest.specs.declared.line.Line.{Line}
use Rattle.ips_manifest.specs.declared.package.Package.{Package}
use Rattle.ips_filter.specs.Settings.{Set}
use Rattle.ips_mediate.specs.declared.set.SetMediator.{SetMediator}
use Rattle.ips_index.specs.Rows.{IndexedValue}
use Rattle.ips_state.specs.declared.state.Origin.{Origin}
use Rattle.ips_state.specs.declared.state.State.{State}

-- A package as the image has it: its stem, its version, and the lines of its manifest.
pub record Installed : Type 0 where
  pub stem : List ℕ
  pub version : Parts
  pub lines : List Line

-- What a package in memory shows.
abbrev pub installed : Package → Installed
installed p = record { stem = p.stem; version = p.version; lines = p.manifest.lines.items }

-- What an image is by itself: the format of its records, its publisher, the origins of its packages, the actuator word where
-- one is set, variants and facets.
pub record Head : Type 0 where
  pub format : ℕ
  pub publisher : List ℕ
  pub origins : List Origin
  pub actuator : Option (List ℕ)
  pub settings : Set

-- What an image records: what it is by itself, the installed packages, the stems that are avoided, those that are kept at a
-- version, and what is set of mediators; a line for each request that was carried out; and the rows of its index, where it has one.
pub record Recorded : Type 0 where
  pub format : ℕ
  pub publisher : List ℕ
  pub origins : List Origin
  pub actuator : Option (List ℕ)
  pub settings : Set
  pub installed : List Installed
  pub avoid : List (List ℕ)
  pub freeze : List Fmri
  pub mediators : List SetMediator
  pub history : List (List ℕ)
  pub index : Option (List IndexedValue)

-- What the image of these records is by itself.
abbrev pub head_of : Recorded → Head
head_of r = record { format = r.format; publisher = r.publisher; origins = r.origins; actuator = r.actuator; settings = r.settings }

-- What a state in memory records.
abbrev pub recorded : State → Recorded
recorded s = record {
  format = s.format;
  publisher = s.publisher;
  origins = s.origins.items;
  actuator = s.actuator;
  settings = s.settings;
  installed = map installed s.installed.items;
  avoid = s.avoid.items;
  freeze = s.freeze.items;
  mediators = s.mediators.items;
  history = s.history.items;
  index = s.index;
}

-- The stems ascend by their bytes, so that none stands twice.
abbrev pub Ascend : List (List ℕ) → Type 0
Ascend stems = IsStrictlySortedBy (slice_cmp nat_cmp) stems

-- The records are in the order of an image's files: packages, avoided stems and freezes by stem, each stem once, and each
-- freeze has a version.
pub record IsOrdered (r : Recorded) : Type 0 where
  pub installed : Ascend (map (λ (p : Installed). p.stem) r.installed)
  pub avoid : Ascend r.avoid
  pub freeze : Ascend (map (λ (f : Fmri). f.stem) r.freeze)
  pub frozen : AllByRecursion (λ (f : Fmri). IsTrue (is_some f.version)) r.freeze
