-- Why words aren't taken, and why the two files aren't read.
use Rattle.std.specs.Prelude.{◌≡◌, ℕ, ◌≤◌, ◌⊎◌, List, length, slice_get, Some, None}
use Rattle.ips_text.specs.declared.limits.Which.TheVariants.{ManifestBytes}
use Rattle.ips_files.specs.declared.reading.FileFault.{FileFault}
use Rattle.ips_files.specs.declared.reading.FileFault.TheVariants as file
use Rattle.ips_syntax.specs.declared.table.Why.{Why}
use Rattle.ips_syntax.specs.declared.table.Why.TheVariants.{Missing}
use Rattle.ips_words.specs.declared.what.Usage.{Usage}
use Rattle.ips_mogrify.specs.declared.status.MogrifyOutcome.{MogrifyOutcome}
use Rattle.ips_mogrify.specs.declared.status.MogrifyOutcome.TheVariants.{FileMissing, TooLarge, SourceFault, OutOfMemory}
use Rattle.ips_mogrify.specs.Outcome.{SeenSource, IsFile, IsSomeFile, IsFitFile, IsLargeFile}

-- at this place a word is missing, or stands that isn't as it should be, for which there is this cause
abbrev pub IsWrong : List (List ℕ) → ℕ → (List ℕ → Type 0) → Why → Usage → Type 0
IsWrong words place Fits cause usage =
    (usage.place ≡ place)
    × (((length words ≤ place) × (usage.why ≡ Missing)) ⊎ ((word : List ℕ) × (slice_get words place ≡ Some word) × (Fits word → ⊥) × (usage.why ≡ cause)))

-- that no file stands at the path is told; or memory was refused
abbrev pub IsAbsenceTold : List ℕ → MogrifyOutcome → Type 0
IsAbsenceTold path (FileMissing p) = p.bytes ≡ path
IsAbsenceTold path OutOfMemory = Unit {0}
IsAbsenceTold path o = ⊥

-- what is told of a file that isn't read, by why it isn't
abbrev pub IsFileFaultTold : FileFault → List ℕ → MogrifyOutcome → Type 0
IsFileFaultTold file.Missing path o = IsAbsenceTold path o
IsFileFaultTold (file.TooLarge count) path o = o ≡ TooLarge ManifestBytes count
IsFileFaultTold file.SourceFault path o = o ≡ SourceFault

-- no file stands at the path, and so it is told; or a call failed, or memory was refused
abbrev pub IsAbsentFile : SeenSource → List ℕ → MogrifyOutcome → Type 0
IsAbsentFile s path (FileMissing p) = (p.bytes ≡ path) × IsFile s path None
IsAbsentFile s path SourceFault = Unit {0}
IsAbsentFile s path OutOfMemory = Unit {0}
IsAbsentFile s path o = ⊥

-- no file stands at the path, or one that is too large; or a call failed, or memory was refused
abbrev pub IsUnreadAt : SeenSource → List ℕ → MogrifyOutcome → Type 0
IsUnreadAt s path (FileMissing p) = (p.bytes ≡ path) × IsFile s path None
IsUnreadAt s path (TooLarge which count) = (which ≡ ManifestBytes) × IsLargeFile s path count
IsUnreadAt s path SourceFault = Unit {0}
IsUnreadAt s path OutOfMemory = Unit {0}
IsUnreadAt s path o = ⊥

-- one of both files is missing, the first before the second; or both stand and one is too large, the first before the second; or a call failed, or memory was refused
abbrev pub AreUnread : SeenSource → List ℕ → List ℕ → MogrifyOutcome → Type 0
AreUnread s rules manifest (FileMissing p) = ((p.bytes ≡ rules) × IsFile s rules None) ⊎ (IsSomeFile s rules × (p.bytes ≡ manifest) × IsFile s manifest None)
AreUnread s rules manifest (TooLarge which count) =
    (which ≡ ManifestBytes) × ((IsSomeFile s manifest × IsLargeFile s rules count) ⊎ (((rules_text : List ℕ) × IsFitFile s rules rules_text) × IsLargeFile s manifest count))
AreUnread s rules manifest SourceFault = Unit {0}
AreUnread s rules manifest OutOfMemory = Unit {0}
AreUnread s rules manifest o = ⊥
