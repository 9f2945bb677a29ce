-- How an outcome is told.
use Rattle.std.specs.Prelude.{◌≡◌, ◌⊎◌, ℕ, Bool, true, false, List, slice_get, Result, Ok, Err}
use Rattle.ips_text.specs.declared.refusal.Or.{Or}
use Rattle.ips_text.specs.declared.refusal.Or.TheVariants.{Bad}
use Rattle.ips_text.specs.declared.refusal.Or.TheVariants as or
use Rattle.ips_commit.specs.declared.fault.CommitFault.{CommitFault}
use Rattle.ips_commit.specs.declared.fault.CommitFault.TheVariants as commit
use Rattle.ips_repo.specs.declared.fault.RepoFault.{RepoFault}
use Rattle.ips_repo.specs.declared.fault.RepoFault.TheVariants as repo
use Rattle.ips_judged.specs.declared.verdict.Asked.{Asked}
use Rattle.ips_judged.specs.declared.verdict.Refusal.{Refusal}
use Rattle.ips_judged.specs.declared.verdict.Refusal.TheVariants as refusal
use Rattle.ips_published.specs.declared.fault.PublishFault.{PublishFault}
use Rattle.ips_published.specs.declared.fault.PublishFault.TheVariants as publish
use Rattle.ips_published.specs.Ending.{Ending}
use Rattle.ips_create.specs.declared.fault.CreateFault.{CreateFault}
use Rattle.ips_create.specs.declared.fault.CreateFault.TheVariants as create
use Rattle.ips_sends.specs.Published.{fmri_text, word_or_none}
use Rattle.ips_send_report.specs.declared.outcome.SendOutcome.{SendOutcome}
use Rattle.ips_send_report.specs.declared.outcome.SendOutcome.TheVariants as outcome

-- ---- the outcome of each phase

-- why what was stopped isn't brought to its end
abbrev pub unsettled_as : Or CommitFault → SendOutcome
unsettled_as (Bad commit.Unchanged) = outcome.FolderFault false
unsettled_as (Bad commit.Unfinished) = outcome.FolderFault true
unsettled_as (Bad (commit.BadJournal line)) = outcome.BadJournal line
unsettled_as or.OutOfMemory = outcome.OutOfMemory

-- why no repository is made
abbrev pub uncreated_as : Or CreateFault → SendOutcome
uncreated_as (Bad create.Exists) = outcome.Exists
uncreated_as (Bad (create.Blocked path)) = outcome.Blocked path
uncreated_as (Bad (create.FolderFault unfinished)) = outcome.FolderFault unfinished
uncreated_as or.OutOfMemory = outcome.OutOfMemory

-- how the making of a repository ends
abbrev pub created_as : Result (Unit {0}) (Or CreateFault) → SendOutcome
created_as (Ok done) = outcome.Created
created_as (Err why) = uncreated_as why

-- Why a repository isn't opened: it is none, or it has no catalog, or one that is too large. For no other cause it isn't.
abbrev pub unopened_as : RepoFault → SendOutcome
unopened_as repo.NoRepository = outcome.NoRepository
unopened_as (repo.BadCatalog why) = outcome.BadCatalog why
unopened_as repo.ManifestMissing = outcome.NoRepository
unopened_as (repo.BadManifest why) = outcome.NoRepository
unopened_as repo.PayloadMissing = outcome.NoRepository
unopened_as (repo.PayloadDamaged found) = outcome.NoRepository
unopened_as (repo.Compressed found) = outcome.NoRepository
unopened_as (repo.TooLarge which count) = outcome.TooLarge which count
unopened_as repo.SourceFault = outcome.NoRepository

-- why a publication is refused
abbrev pub refused_as : Refusal → SendOutcome
refused_as (refusal.Unopened why) = unopened_as why
refused_as refusal.ManifestMissing = outcome.ManifestMissing
refused_as (refusal.BadManifest why) = outcome.BadManifest why
refused_as (refusal.ContentMissing text) = outcome.ContentMissing text
refused_as refusal.Exists = outcome.Exists
refused_as (refusal.Blocked path) = outcome.Blocked path
refused_as (refusal.TooLarge which count) = outcome.TooLarge which count

-- why nothing is published
abbrev pub unpublished_as : Or PublishFault → SendOutcome
unpublished_as (Bad (publish.Refused why)) = refused_as why
unpublished_as (Bad (publish.Lost text)) = outcome.ContentMissing text
unpublished_as (Bad publish.SourceFault) = outcome.SourceFault
unpublished_as (Bad (publish.FolderFault unfinished)) = outcome.FolderFault unfinished
unpublished_as (Bad (publish.BadJournal line)) = outcome.BadJournal line
unpublished_as or.OutOfMemory = outcome.OutOfMemory

-- how a publication of what was asked ends
abbrev pub published_as : Asked → Ending → SendOutcome
published_as a (Ok done) = outcome.Published (fmri_text a.publisher a.stem a.version)
published_as a (Err why) = unpublished_as why

-- ---- which outcome is which

-- it is published
abbrev pub is_published : SendOutcome → Bool
is_published (outcome.Published fmri) = true
is_published o = false

-- a call on the repository failed
abbrev pub BlamesFolder : SendOutcome → Type 0
BlamesFolder (outcome.FolderFault unfinished) = Unit {0}
BlamesFolder o = ⊥

-- it says that words go wrong, that what was stopped isn't brought to its end, that a call failed, or that memory was refused
abbrev pub IsFault : SendOutcome → Type 0
IsFault (outcome.Usage place why) = Unit {0}
IsFault (outcome.BadJournal line) = Unit {0}
IsFault outcome.SourceFault = Unit {0}
IsFault (outcome.FolderFault unfinished) = Unit {0}
IsFault outcome.OutOfMemory = Unit {0}
IsFault o = ⊥

-- ---- the report

-- the publisher that the words of `create` name
abbrev pub named_publisher : List (List ℕ) → List ℕ
named_publisher words = word_or_none (slice_get words 6)

-- It is refused before the gate's call and with no call that failed, so that want of memory for its report may still be told in its place.
abbrev pub IsEarly : SendOutcome → Type 0
IsEarly (outcome.Usage place why) = Unit {0}
IsEarly (outcome.BadJournal line) = ⊥
IsEarly outcome.Exists = Unit {0}
IsEarly (outcome.Blocked path) = Unit {0}
IsEarly outcome.NoRepository = Unit {0}
IsEarly (outcome.BadCatalog fault) = Unit {0}
IsEarly outcome.ManifestMissing = Unit {0}
IsEarly (outcome.BadManifest fault) = Unit {0}
IsEarly (outcome.ContentMissing path) = Unit {0}
IsEarly (outcome.TooLarge which count) = Unit {0}
IsEarly outcome.SourceFault = ⊥
IsEarly (outcome.FolderFault unfinished) = ⊥
IsEarly outcome.Created = ⊥
IsEarly (outcome.Published fmri) = ⊥
IsEarly outcome.OutOfMemory = ⊥

-- The outcome is told, or, where memory for the report of an early one is wanted, that.
abbrev pub IsToldFor : SendOutcome → SendOutcome → Type 0
IsToldFor o told = (told ≡ o) ⊎ (IsEarly o × (told ≡ outcome.OutOfMemory))
