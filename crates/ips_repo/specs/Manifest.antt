-- The manifests of a repository.
use Rattle.std.specs.Prelude.{◌≡◌, ℕ, ◌<◌, ◌≤◌, nat_lt, if◌then◌else◌, List, length, Option, Some, None, Result, Ok, Err}
use Rattle.ips_text.specs.declared.limits.Which.{Which}
use Rattle.ips_text.specs.declared.limits.Which.TheVariants.{ManifestBytes}
use Rattle.ips_fmri.specs.Version.{Parts}
use Rattle.ips_outside.specs.Image.{Image}
use Rattle.ips_manifest.specs.Manifest.{IsManifestOf, IsFaultOf}
use Rattle.ips_manifest.specs.declared.line.Line.{Line}
use Rattle.ips_manifest.specs.declared.fault.ManifestFault.{ManifestFault}
use Rattle.ips_files.specs.Files.{file_at, HasSize}
use Rattle.ips_repo.specs.Places.{manifest_place}
use Rattle.ips_files.specs.declared.reading.FileFault.{FileFault}
use Rattle.ips_files.specs.declared.reading.FileFault.TheVariants as file
use Rattle.ips_repo.specs.declared.fault.RepoFault.{RepoFault}
use Rattle.ips_repo.specs.declared.fault.RepoFault.TheVariants as fault

-- the most bytes that a manifest may have: 16 MiB
abbrev pub manifest_limit : ℕ
manifest_limit = 16777216

-- the bytes at the place of the manifest of a version of a stem, where a file stands there
abbrev pub manifest_file : List ℕ → List ℕ → Parts → Image → Option (List ℕ)
manifest_file publisher stem version t = file_at t (manifest_place publisher stem version)

-- The manifest in this file: it has these lines and so many bytes, no more than a manifest may have.
pub record HoldsManifest (file : Option (List ℕ)) (lines : List Line) (size : ℕ) : Type 0 where
  pub bytes : List ℕ
  pub stands : file ≡ Some bytes
  pub within : length bytes ≤ manifest_limit
  pub means : IsManifestOf bytes lines
  pub sized : size ≡ length bytes

-- The file isn't too large, and is no manifest: this is its first fault.
pub record HoldsFault (file : Option (List ℕ)) (f : ManifestFault) : Type 0 where
  pub bytes : List ℕ
  pub stands : file ≡ Some bytes
  pub within : length bytes ≤ manifest_limit
  pub first : IsFaultOf bytes f

-- there are too many bytes for a manifest
abbrev pub IsTooLarge : Which → ℕ → Type 0
IsTooLarge which count = (which ≡ ManifestBytes) × (manifest_limit < count)

-- Why the manifest in this file isn't given: there is no file, it has too many bytes, or it is no manifest.
abbrev pub IsManifestRefusal : Option (List ℕ) → RepoFault → Type 0
IsManifestRefusal file fault.NoRepository = ⊥
IsManifestRefusal file (fault.BadCatalog why) = ⊥
IsManifestRefusal file fault.ManifestMissing = file ≡ None
IsManifestRefusal file (fault.BadManifest why) = HoldsFault file why
IsManifestRefusal file fault.PayloadMissing = ⊥
IsManifestRefusal file (fault.PayloadDamaged found) = ⊥
IsManifestRefusal file (fault.Compressed found) = ⊥
IsManifestRefusal file (fault.TooLarge which count) = IsTooLarge which count × HasSize file count
IsManifestRefusal file fault.SourceFault = Unit {0}

-- Whatever the source holds, the lines are those of a manifest of so many bytes.
pub record IsSizedManifest (lines : List Line) (size : ℕ) : Type 0 where
  pub bytes : List ℕ
  pub within : length bytes ≤ manifest_limit
  pub means : IsManifestOf bytes lines
  pub sized : size ≡ length bytes

-- some bytes have this first fault of a manifest
abbrev pub IsSomeFault : ManifestFault → Type 0
IsSomeFault f = (bytes : List ℕ) × IsFaultOf bytes f

-- The faults of giving a manifest: it is missing, it has more bytes than a manifest may have, it is none, or a call failed.
abbrev pub IsManifestFault : RepoFault → Type 0
IsManifestFault fault.NoRepository = ⊥
IsManifestFault (fault.BadCatalog why) = ⊥
IsManifestFault fault.ManifestMissing = Unit {0}
IsManifestFault (fault.BadManifest why) = IsSomeFault why
IsManifestFault fault.PayloadMissing = ⊥
IsManifestFault (fault.PayloadDamaged found) = ⊥
IsManifestFault (fault.Compressed found) = ⊥
IsManifestFault (fault.TooLarge which count) = IsTooLarge which count
IsManifestFault fault.SourceFault = Unit {0}

-- the bytes of the manifest in this file: it is missing, too large, or all of the file
abbrev pub manifest_in : Option (List ℕ) → Result (List ℕ) RepoFault
manifest_in None = Err fault.ManifestMissing
manifest_in (Some bytes) =
    if nat_lt manifest_limit (length bytes)
    then Err (fault.TooLarge ManifestBytes (length bytes))
    else Ok bytes

-- The faults of reading the bytes of a manifest: it is missing, it has more bytes than a manifest may have, or a call failed.
abbrev pub IsBytesFault : RepoFault → Type 0
IsBytesFault fault.NoRepository = ⊥
IsBytesFault (fault.BadCatalog why) = ⊥
IsBytesFault fault.ManifestMissing = Unit {0}
IsBytesFault (fault.BadManifest why) = ⊥
IsBytesFault fault.PayloadMissing = ⊥
IsBytesFault (fault.PayloadDamaged found) = ⊥
IsBytesFault (fault.Compressed found) = ⊥
IsBytesFault (fault.TooLarge which count) = IsTooLarge which count
IsBytesFault fault.SourceFault = Unit {0}

-- the fault is the first of these bytes
abbrev pub IsTextFault : List ℕ → RepoFault → Type 0
IsTextFault bytes fault.NoRepository = ⊥
IsTextFault bytes (fault.BadCatalog why) = ⊥
IsTextFault bytes fault.ManifestMissing = ⊥
IsTextFault bytes (fault.BadManifest why) = IsFaultOf bytes why
IsTextFault bytes fault.PayloadMissing = ⊥
IsTextFault bytes (fault.PayloadDamaged found) = ⊥
IsTextFault bytes (fault.Compressed found) = ⊥
IsTextFault bytes (fault.TooLarge which count) = ⊥
IsTextFault bytes fault.SourceFault = ⊥

-- the fault of reading a manifest's bytes by the fault of reading its file
abbrev pub fault_of_manifest : FileFault → RepoFault
fault_of_manifest file.Missing = fault.ManifestMissing
fault_of_manifest (file.TooLarge count) = fault.TooLarge ManifestBytes count
fault_of_manifest file.SourceFault = fault.SourceFault
