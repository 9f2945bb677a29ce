-- What each step of the judging answers.
use Rattle.std.specs.Prelude.{◌≡◌, ◌⊎◌, ℕ, ◌<◌, ◌≤◌, List, length, Some, None, Err}
use Rattle.std.specs.List.{AllByRecursion}
use Rattle.ips_text.specs.declared.limits.Which.{Which}
use Rattle.ips_text.specs.declared.limits.Which.TheVariants.{ManifestBytes, PayloadBytes}
use Rattle.ips_outside.specs.Image.{Image}
use Rattle.ips_manifest.specs.declared.draft.Draft.{Draft}
use Rattle.ips_manifest.specs.Draft.{IsDraftOf, IsDraftFaultOf}
use Rattle.ips_files.specs.Files.{file_at}
use Rattle.ips_files.specs.declared.reading.FileFault.{FileFault}
use Rattle.ips_files.specs.declared.reading.FileFault.TheVariants as file
use Rattle.ips_repo.specs.Manifest.{manifest_limit}
use Rattle.ips_repo.specs.Opening.{opening}
use Rattle.ips_repo.specs.declared.fault.RepoFault.{RepoFault}
use Rattle.ips_repo.specs.declared.fault.RepoFault.TheVariants as repo
use Rattle.ips_filling.specs.declared.filled.ContentFault.{ContentFault}
use Rattle.ips_filling.specs.declared.filled.ContentFault.TheVariants as content
use Rattle.ips_text.specs.declared.refusal.Or.{Or}
use Rattle.ips_text.specs.declared.refusal.Or.TheVariants.{Bad, OutOfMemory}
use Rattle.ips_action.specs.Action.{Fields}
use Rattle.ips_catalog.specs.Listed.{Listed}
use Rattle.ips_listing.specs.Text.{catalog_text}
use Rattle.ips_ways.specs.Ways.{IsFirstInTheWay}
use Rattle.ips_sends.specs.Published.{actions_text}
use Rattle.ips_sends.specs.Judged.{HasSource, IsFirstMissing, IsFirstOver, Put, IsOverPut}
use Rattle.ips_judged.specs.declared.verdict.Refusal.{Refusal}
use Rattle.ips_judged.specs.declared.verdict.Refusal.TheVariants.{Unopened, ManifestMissing, BadManifest, ContentMissing, Exists, Blocked, TooLarge}
use Rattle.ips_judged.specs.declared.verdict.JudgeFault.{JudgeFault}
use Rattle.ips_judged.specs.declared.verdict.JudgeFault.TheVariants.{Refused, SourceFault, FolderFault}

-- this is so of a refusal; a fault says nothing
abbrev pub IsWhy : (Refusal → Type 0) → JudgeFault → Type 0
IsWhy P (Refused r) = P r
IsWhy P SourceFault = Unit {0}
IsWhy P FolderFault = Unit {0}

-- what is put of these actions, with this catalog
abbrev pub put_with : List ℕ → List Listed → List Fields → Put
put_with publisher catalog actions = record { actions = actions; manifest = actions_text actions; catalog = catalog_text publisher catalog }

-- ---- the repository

-- why the repository isn't opened, as it is answered
abbrev pub unopened : RepoFault → JudgeFault
unopened repo.NoRepository = Refused (Unopened repo.NoRepository)
unopened (repo.BadCatalog why) = Refused (Unopened (repo.BadCatalog why))
unopened repo.ManifestMissing = Refused (Unopened repo.ManifestMissing)
unopened (repo.BadManifest why) = Refused (Unopened (repo.BadManifest why))
unopened repo.PayloadMissing = Refused (Unopened repo.PayloadMissing)
unopened (repo.PayloadDamaged found) = Refused (Unopened (repo.PayloadDamaged found))
unopened (repo.Compressed found) = Refused (Unopened (repo.Compressed found))
unopened (repo.TooLarge which count) = Refused (Unopened (repo.TooLarge which count))
unopened repo.SourceFault = FolderFault

-- the repository isn't opened, for this cause
abbrev pub IsUnopened : List ℕ → Image → Refusal → Type 0
IsUnopened publisher t (Unopened why) = opening publisher t ≡ Err why
IsUnopened publisher t ManifestMissing = ⊥
IsUnopened publisher t (BadManifest f) = ⊥
IsUnopened publisher t (ContentMissing text) = ⊥
IsUnopened publisher t Exists = ⊥
IsUnopened publisher t (Blocked path) = ⊥
IsUnopened publisher t (TooLarge which count) = ⊥

-- ---- the manifest

-- A file stands at the path, it isn't too large, and it is a draft of these lines.
pub record AreDraftsAt (proto : Image) (path : List ℕ) (drafts : List Draft) : Type 0 where
  pub bytes : List ℕ
  pub stands : file_at proto path ≡ Some bytes
  pub within : length bytes ≤ manifest_limit
  pub are : IsDraftOf bytes drafts

-- why no draft is read, as it is answered
abbrev pub unread : FileFault → JudgeFault
unread file.Missing = Refused ManifestMissing
unread (file.TooLarge count) = Refused (TooLarge ManifestBytes count)
unread file.SourceFault = SourceFault

-- no draft stands at the path, for this cause
abbrev pub IsNoDraft : Image → List ℕ → Refusal → Type 0
IsNoDraft proto path (Unopened why) = ⊥
IsNoDraft proto path ManifestMissing = file_at proto path ≡ None
IsNoDraft proto path (BadManifest f) = (bytes : List ℕ) × (file_at proto path ≡ Some bytes) × (length bytes ≤ manifest_limit) × IsDraftFaultOf bytes f
IsNoDraft proto path (ContentMissing text) = ⊥
IsNoDraft proto path Exists = ⊥
IsNoDraft proto path (Blocked path_of) = ⊥
IsNoDraft proto path (TooLarge which count) = (which ≡ ManifestBytes) × ((bytes : List ℕ) × (file_at proto path ≡ Some bytes) × (length bytes ≡ count) × (manifest_limit < count))

-- ---- contents

-- why contents aren't taken in, as it is answered
abbrev pub lost : ContentFault → JudgeFault
lost (content.Missing text) = Refused (ContentMissing text)
lost (content.TooLarge count) = Refused (TooLarge PayloadBytes count)
lost content.SourceFault = SourceFault

-- a content isn't a file, and this is the text of the first
abbrev pub AreLacking : Image → List Draft → Refusal → Type 0
AreLacking proto drafts (Unopened why) = ⊥
AreLacking proto drafts ManifestMissing = ⊥
AreLacking proto drafts (BadManifest f) = ⊥
AreLacking proto drafts (ContentMissing text) = IsFirstMissing proto drafts text
AreLacking proto drafts Exists = ⊥
AreLacking proto drafts (Blocked path) = ⊥
AreLacking proto drafts (TooLarge which count) = ⊥

-- a content that was a file isn't one any more, or one is too large, the first of which has so many bytes
abbrev pub AreNotTaken : Image → List Draft → Refusal → Type 0
AreNotTaken proto drafts (Unopened why) = ⊥
AreNotTaken proto drafts ManifestMissing = ⊥
AreNotTaken proto drafts (BadManifest f) = ⊥
AreNotTaken proto drafts (ContentMissing text) = AllByRecursion (HasSource proto) drafts → ⊥
AreNotTaken proto drafts Exists = ⊥
AreNotTaken proto drafts (Blocked path) = ⊥
AreNotTaken proto drafts (TooLarge which count) = (which ≡ PayloadBytes) × IsFirstOver proto drafts count

-- the bytes are no draft, and this is their first fault
abbrev pub IsFaulty : List ℕ → Refusal → Type 0
IsFaulty bytes (Unopened why) = ⊥
IsFaulty bytes ManifestMissing = ⊥
IsFaulty bytes (BadManifest f) = IsDraftFaultOf bytes f
IsFaulty bytes (ContentMissing text) = ⊥
IsFaulty bytes Exists = ⊥
IsFaulty bytes (Blocked path) = ⊥
IsFaulty bytes (TooLarge which count) = ⊥

-- it is refused, and no call failed
abbrev pub IsRefused : JudgeFault → Type 0
IsRefused (Refused r) = Unit {0}
IsRefused SourceFault = ⊥
IsRefused FolderFault = ⊥

-- no draft stands at the path, or one whose contents aren't all files, for this cause
abbrev pub IsNotReady : Image → List ℕ → Refusal → Type 0
IsNotReady proto path r = IsNoDraft proto path r ⊎ ((drafts : List Draft) × AreDraftsAt proto path drafts × AreLacking proto drafts r)

-- it is refused, or a call on the repository failed
abbrev pub IsOfTarget : JudgeFault → Type 0
IsOfTarget (Refused r) = Unit {0}
IsOfTarget SourceFault = ⊥
IsOfTarget FolderFault = Unit {0}

-- it is refused, or a call on the folder of what is published failed
abbrev pub IsOfProto : JudgeFault → Type 0
IsOfProto (Refused r) = Unit {0}
IsOfProto SourceFault = Unit {0}
IsOfProto FolderFault = ⊥

-- ---- what is written

-- something is in the way, and this is the first
abbrev pub IsBarred : Image → List (List ℕ) → Refusal → Type 0
IsBarred t paths (Unopened why) = ⊥
IsBarred t paths ManifestMissing = ⊥
IsBarred t paths (BadManifest f) = ⊥
IsBarred t paths (ContentMissing text) = ⊥
IsBarred t paths Exists = ⊥
IsBarred t paths (Blocked path) = IsFirstInTheWay t paths path.bytes
IsBarred t paths (TooLarge which count) = ⊥

-- it is answered that this path is in the way, unless memory ran out
abbrev pub SaysBarred : List ℕ → Or JudgeFault → Type 0
SaysBarred path (Bad (Refused (Unopened why))) = ⊥
SaysBarred path (Bad (Refused ManifestMissing)) = ⊥
SaysBarred path (Bad (Refused (BadManifest f))) = ⊥
SaysBarred path (Bad (Refused (ContentMissing text))) = ⊥
SaysBarred path (Bad (Refused Exists)) = ⊥
SaysBarred path (Bad (Refused (Blocked at))) = at.bytes ≡ path
SaysBarred path (Bad (Refused (TooLarge which count))) = ⊥
SaysBarred path (Bad SourceFault) = ⊥
SaysBarred path (Bad FolderFault) = ⊥
SaysBarred path OutOfMemory = Unit {0}

-- what is put of these actions, with this catalog, passes a limit, and this is the first
abbrev pub AreOver : List ℕ → List Listed → List Fields → Refusal → Type 0
AreOver publisher catalog actions (Unopened why) = ⊥
AreOver publisher catalog actions ManifestMissing = ⊥
AreOver publisher catalog actions (BadManifest f) = ⊥
AreOver publisher catalog actions (ContentMissing text) = ⊥
AreOver publisher catalog actions Exists = ⊥
AreOver publisher catalog actions (Blocked path) = ⊥
AreOver publisher catalog actions (TooLarge which count) = IsOverPut catalog (put_with publisher catalog actions) which count

-- and this passes none
abbrev pub IsWithin : List ℕ → List Listed → List Fields → Type 0
IsWithin publisher catalog actions = (which : Which) (count : ℕ) → IsOverPut catalog (put_with publisher catalog actions) which count → ⊥
