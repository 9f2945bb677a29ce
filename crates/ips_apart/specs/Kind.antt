-- Which kind an outcome is of.
use Rattle.std.specs.Prelude.{◌≡◌, ℕ, ◌<◌, ◌^◌, Bool, true, false, List, ◌∷◌, Option, Some, None, map, codes}
use Rattle.std.specs.List.{AllByRecursion}
use Rattle.ips_text.specs.Cut.{has_byte}
use Rattle.ips_text.specs.Path.{IsPath}
use Rattle.ips_meaning.specs.declared.finding.Finding.{Finding}
use Rattle.ips_meaning.specs.declared.finding.Damage.{Damage}
use Rattle.ips_counts.specs.declared.counts.Counts.{Counts}
use Rattle.ips_counts.specs.declared.sorts.Sorts.{Sorts}
use Rattle.ips_fmri.specs.Version.{Parts, version_text}
use Rattle.ips_report.specs.declared.unsolved.Tried.{Tried}
use Rattle.ips_report.specs.declared.outcome.Outcome.{Outcome}
use Rattle.ips_report.specs.declared.outcome.Outcome.TheVariants.{Usage, Unfinished, BadJournal, Recovered, NoImage, ImageExists, BadImage, OldFormat, NoIndex, NoRepository, BadCatalog, NoMatch, Ambiguous, ManifestMissing, BadManifest, BadDepend, NoSolution, SearchSpent, NothingToDo, Reserved, Clash, BadAccountLine, IdTaken, UnknownOwner, LicenseNeeded, Unmovable, PayloadMissing, PayloadDamaged, Compressed, TooLarge, ActuatorFailed, SpawnFault, SourceFault, FolderFault, Damaged, Done, Shown, OutOfMemory}

-- The outcome shows a text as it stands.
abbrev pub shows : Outcome → Bool
shows (Shown text) = true
shows o = false

-- The kind of an outcome, by its name.
abbrev pub kind_of : Outcome → List ℕ
kind_of (Usage place why) = codes "usage"
kind_of Unfinished = codes "unfinished"
kind_of (BadJournal number) = codes "bad journal"
kind_of (Recovered forward) = codes "recovered"
kind_of NoImage = codes "no image"
kind_of ImageExists = codes "image exists"
kind_of (BadImage file number) = codes "bad image"
kind_of OldFormat = codes "old format"
kind_of NoIndex = codes "no index"
kind_of NoRepository = codes "no repository"
kind_of (BadCatalog fault) = codes "bad catalog"
kind_of (NoMatch pattern) = codes "no match"
kind_of (Ambiguous pattern stems) = codes "ambiguous"
kind_of (ManifestMissing fmri) = codes "manifest missing"
kind_of (BadManifest fmri fault) = codes "bad manifest"
kind_of (BadDepend fmri number) = codes "bad depend"
kind_of (NoSolution stems refutation) = codes "no solution"
kind_of (SearchSpent limit) = codes "search spent"
kind_of NothingToDo = codes "nothing to do"
kind_of (Reserved path) = codes "reserved"
kind_of (Clash clash) = codes "conflict"
kind_of (BadAccountLine book number) = codes "bad account line"
kind_of (IdTaken id) = codes "id taken"
kind_of (UnknownOwner path name) = codes "unknown owner"
kind_of (LicenseNeeded list) = codes "license needed"
kind_of (Unmovable path) = codes "unmovable"
kind_of (PayloadMissing name) = codes "payload missing"
kind_of (PayloadDamaged name found) = codes "payload damaged"
kind_of (Compressed name found) = codes "compressed"
kind_of (TooLarge which count) = codes "too large"
kind_of (ActuatorFailed after words status) = codes "actuator failed"
kind_of (SpawnFault after) = codes "spawn fault"
kind_of SourceFault = codes "source fault"
kind_of (FolderFault unfinished) = codes "folder fault"
kind_of (Damaged findings) = codes "damaged"
kind_of (Done counts steps licenses) = codes "done"
kind_of (Shown text) = codes "shown"
kind_of OutOfMemory = codes "out of memory"

-- None of the texts has the byte.
abbrev pub AllLack : ℕ → List (List ℕ) → Type 0
AllLack x texts = AllByRecursion (λ text. has_byte x text ≡ false) texts

-- The path of a finding is one.
abbrev pub HasPath : Finding → Type 0
HasPath f = IsPath f.path.bytes

-- What a finding tells: what is wrong, and where.
abbrev pub found : Finding → Damage × List ℕ
found f = (f.damage, f.path.bytes)

-- The counts of packages are below 2^64.
pub record AreSmallCounts (c : Counts) : Type 0 where
  pub installs : c.installs < 2 ^ 64
  pub updates : c.updates < 2 ^ 64
  pub removes : c.removes < 2 ^ 64

-- The counts of steps are below 2^64.
pub record AreSmallSorts (s : Sorts) : Type 0 where
  pub gone : s.gone < 2 ^ 64
  pub fresh : s.fresh < 2 ^ 64
  pub mode : s.mode < 2 ^ 64
  pub put : s.put < 2 ^ 64
  pub link : s.link < 2 ^ 64
  pub hard : s.hard < 2 ^ 64

-- The word that tells a candidate: its version, or `-` for absence.
abbrev pub candidate_word : Option Parts → List ℕ
candidate_word None = codes "-"
candidate_word (Some v) = version_text v

-- What the line of a stem tells: its name and its candidates.
abbrev pub tried_words : Tried → List (List ℕ)
tried_words t = t.stem ∷ map candidate_word t.candidates.items

-- Neither the name of the stem nor a candidate's version has a blank or a newline.
abbrev pub HasWords : Tried → Type 0
HasWords t = AllLack 32 (tried_words t) × AllLack 10 (tried_words t)
