-- What is answered of a publication that is judged.
use Rattle.std.specs.Prelude.{◌≡◌, false, List, Ok}
use Rattle.std.specs.List.{AllByRecursion, Contains}
use Rattle.ips_outside.specs.Image.{Image}
use Rattle.ips_fmri.specs.Name.{IsPublisher, IsStem}
use Rattle.ips_fmri.specs.Version.{IsVersion}
use Rattle.ips_sends.specs.Judged as judged
use Rattle.ips_catalog.specs.Listed.{Listed, versions_of}
use Rattle.ips_repo.specs.Opening.{opening}
use Rattle.ips_manifest.specs.declared.draft.Draft.{Draft}
use Rattle.ips_sends.specs.Judged.{HasSource, Put, Verdict, Refused, Publish, Judges}
use Rattle.ips_action.specs.Action.{Fields}
use Rattle.ips_filling.specs.declared.filled.Filled.{Filled}
use Rattle.ips_filling.specs.Filled.{IsFilling, Pairwise}
use Rattle.ips_sends.specs.Judged.{Fits}
use Rattle.ips_sends.specs.Published.{AreFilled, fmri_text, named_actions}
use Rattle.ips_prepare.specs.Prepared.{actions_of}
use Rattle.ips_judged.specs.declared.verdict.Asked.{Asked}
use Rattle.ips_judged.specs.declared.verdict.Publication.{Publication}
use Rattle.ips_judged.specs.declared.verdict.Refusal.{Refusal}
use Rattle.ips_judged.specs.declared.verdict.Refusal.TheVariants as refusal
use Rattle.ips_judged.specs.declared.verdict.JudgeFault.{JudgeFault}
use Rattle.ips_judged.specs.declared.verdict.JudgeFault.TheVariants as fault
use Rattle.ips_judged.specs.Steps.{AreDraftsAt}

-- what is asked
abbrev pub asked_of : Asked → judged.Asked
asked_of a = record { publisher = a.publisher; stem = a.stem; version = a.version; path = a.path.bytes }

-- The publisher, the stem and the version are such.
pub record IsAsked (a : Asked) : Type 0 where
  pub publisher : IsPublisher a.publisher
  pub stem : IsStem false a.stem
  pub version : IsVersion a.version

-- why it is refused
abbrev pub refusal_of : Refusal → judged.Refusal
refusal_of (refusal.Unopened why) = judged.Unopened why
refusal_of refusal.ManifestMissing = judged.ManifestMissing
refusal_of (refusal.BadManifest f) = judged.BadManifest f
refusal_of (refusal.ContentMissing text) = judged.ContentMissing text
refusal_of refusal.Exists = judged.Exists
refusal_of (refusal.Blocked path) = judged.Blocked path.bytes
refusal_of (refusal.TooLarge which count) = judged.TooLarge which count

-- what is put
abbrev pub put_of : Publication → Put
put_of p = record { actions = actions_of p.prepared.manifest.lines.items; manifest = p.texts.manifest; catalog = p.texts.catalog.items }

-- what an answer other than a publication says: the refusal is the one that is due, and a fault says nothing
abbrev pub SaysOfJudging : Image → Image → Asked → JudgeFault → Type 0
SaysOfJudging proto t a (fault.Refused r) = Judges proto t (asked_of a) (Refused (refusal_of r))
SaysOfJudging proto t a fault.SourceFault = Unit {0}
SaysOfJudging proto t a fault.FolderFault = Unit {0}

-- The catalog is opened, the manifest is read as these drafts, each of whose contents is a file, and the version isn't listed.
pub record HasPassed (proto t : Image) (a : Asked) (catalog : List Listed) (drafts : List Draft) : Type 0 where
  pub opened : opening a.publisher t ≡ Ok catalog
  pub draft : AreDraftsAt proto a.path.bytes drafts
  pub sources : AllByRecursion (HasSource proto) drafts
  pub new : Contains (versions_of catalog a.stem) a.version → ⊥

-- Drafts that have passed are filled so.
pub record AreTaken (proto t : Image) (a : Asked) (catalog : List Listed) (filled : List Filled) : Type 0 where
  pub drafts : List Draft
  pub passed : HasPassed proto t a catalog drafts
  pub filling : Pairwise (IsFilling proto) drafts filled

-- Drafts that have passed are filled, no content is too large, and with the name of the package the actions are these.
pub record ArePrepared (proto t : Image) (a : Asked) (catalog : List Listed) (actions : List Fields) : Type 0 where
  pub drafts : List Draft
  pub passed : HasPassed proto t a catalog drafts
  pub fit : AllByRecursion (Fits proto) drafts
  pub filled : List Fields
  pub are : AreFilled proto drafts filled
  pub named : actions ≡ named_actions (fmri_text a.publisher a.stem a.version) filled
