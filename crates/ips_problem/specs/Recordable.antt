-- Problems of which whatever is chosen can be recorded.
use Rattle.std.specs.Prelude.{ℕ, false, List, map, take, length, Option, Some, None}
use Rattle.std.specs.List.{AllByRecursion}
use Rattle.ips_fmri.specs.Name.{IsStem}
use Rattle.ips_fmri.specs.Version.{IsVersion}
use Rattle.ips_fmri.specs.declared.fmri.Fmri.{Fmri}
use Rattle.ips_manifest.specs.Manifest.{IsManifestOf}
use Rattle.ips_manifest.specs.declared.line.Line.{Line}
use Rattle.ips_depend.specs.Dependency.{Dependency, grouped}
use Rattle.ips_state.specs.State.{installed}
use Rattle.ips_state.specs.Form.{IsPackage}
use Rattle.ips_request.specs.declared.asking.Subject.{Subject}
use Rattle.ips_request.specs.declared.read.Read.{Read}
use Rattle.ips_request.specs.Stems.{stems_of}
use Rattle.ips_problem.specs.declared.rows.Row.{Row}
use Rattle.ips_problem.specs.declared.gathered.Gathered.{Gathered}
use Rattle.ips_problem.specs.Posed.{Numbered, Offer, Posed, StemRow}
use Rattle.ips_problem.specs.Seen.{seen_test}

-- The lines are those of some manifest.
abbrev pub IsManifest : List Line → Type 0
IsManifest lines = (text : List ℕ) × IsManifestOf text lines

-- What may come to be avoided by the dependency are stems.
abbrev pub NamesStems : Dependency → Type 0
NamesStems d = AllByRecursion (λ (f : Fmri). IsStem false f.stem) (grouped d)

-- An offer can be recorded: its version is one, and its lines are those of a manifest.
pub record IsSoundOffer (o : Offer) : Type 0 where
  pub version : IsVersion o.version
  pub manifest : IsManifest o.lines

-- An offer that can be recorded, where there is one.
abbrev pub IfSoundOffer : Option Offer → Type 0
IfSoundOffer None = Unit {0}
IfSoundOffer (Some o) = IsSoundOffer o

-- Whatever the problem's choices select and avoid can be recorded: its stems and those that are or may come to be avoided are stems, and each offer
-- has a version and a manifest.
pub record IsRecordable (p : Posed) : Type 0 where
  pub stems : AllByRecursion (IsStem false) p.stems
  pub offers : AllByRecursion (λ (row : StemRow). AllByRecursion IfSoundOffer row.candidates) p.rows
  pub tests : AllByRecursion (λ (n : Numbered). NamesStems n.dependency) p.tests
  pub avoid : AllByRecursion (IsStem false) p.avoid

-- ---- on the way

-- What the image of a subject has installed and avoids can be recorded.
pub record IsOverSound (s : Subject) : Type 0 where
  pub packages : AllByRecursion IsPackage (map installed s.state.now.installed.items)
  pub avoided : AllByRecursion (IsStem false) s.state.now.avoid.items

-- What was read of a version can be recorded.
pub record IsSoundRead (read : Read) : Type 0 where
  pub version : IsVersion read.version
  pub manifest : IsManifest read.manifest.lines.items
  pub tests : AllByRecursion NamesStems read.tests.items

-- What was gathered can be recorded: the stems that were gone through, what was read of them, and what their tests name.
pub record IsSoundlyGathered (g : Gathered) : Type 0 where
  pub each : AllByRecursion (IsStem false) (take (length g.rows.items) (stems_of g.stems.keys))
  pub reads : AllByRecursion (λ (row : Row). AllByRecursion IsSoundRead row.reads.items) g.rows.items
  pub tests : AllByRecursion (λ (n : Numbered). NamesStems n.dependency) (map seen_test g.tests.items)
