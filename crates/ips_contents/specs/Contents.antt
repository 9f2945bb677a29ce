-- What is to be staged, and why a payload isn't.
use Rattle.std.specs.Prelude.{◌≡◌, ◌≢◌, ℕ, ◌+◌, ◌^◌, ◌<◌, ◌≤◌, Bool, IsTrue, IsFalse, List, length, take, slice_get, Option, Some, None}
use Rattle.ips_text.specs.Ancestry.{covers, is_below}
use Rattle.ips_text.specs.declared.limits.Which.TheVariants.{PayloadBytes}
use Rattle.ips_outside.specs.Image.{Image, File, is_file, file_bytes}
use Rattle.ips_digest.specs.declared.name.PayloadName.{PayloadName}
use Rattle.ips_repo.specs.Files.{file_at, HasSize}
use Rattle.ips_repo.specs.Places.{payload_place}
use Rattle.ips_repo.specs.Payload.{PayloadReading, payload_limit, digest_by, IsDamage, IsFrontOf}
use Rattle.ips_repo.specs.declared.fault.RepoFault.{RepoFault}
use Rattle.ips_repo.specs.declared.fault.RepoFault.TheVariants as fault
use Rattle.ips_steps.specs.Steps.{Step, Gone, Fresh, Mode, Put, Symlink, Hard, Stage, stage_name, stage_path}
use Rattle.ips_steps.specs.Private.{is_private}
use Rattle.ips_journal.specs.Reading.{puts_in}
use Rattle.ips_journal.specs.declared.staged.Staged.{Staged}
use Rattle.ips_journal.specs.declared.staged.Staged.TheVariants.{Payload, Bytes, Standing}
use Rattle.ips_contents.specs.declared.fault.StageFault.{StageFault}
use Rattle.ips_contents.specs.declared.fault.StageFault.TheVariants as stage

-- These bytes are a payload of the publisher: their digest is its name, and they are the file at its place, where the
-- repository tells what it holds.
pub record IsPayload (tells : Bool) (repository : Image) (publisher : List ℕ) (name : PayloadName) (bytes : List ℕ) : Type 0 where
  pub intact : digest_by name bytes ≡ name
  pub held : IsTrue tells → file_at repository (payload_place publisher name) ≡ Some bytes

-- what is to be staged is these bytes: those of a payload, those that were handed in, or those of a file of the image
abbrev pub IsContent : Bool → Image → List ℕ → Image → Staged → List ℕ → Type 0
IsContent tells repository publisher t (Payload name) bytes = IsPayload tells repository publisher name bytes
IsContent tells repository publisher t (Bytes given) bytes = bytes ≡ given.items
IsContent tells repository publisher t (Standing path) bytes = file_bytes (t.look path.bytes) ≡ Some bytes

-- each numbered content has the bytes of what is to be staged at its place
abbrev pub StagedContents : Bool → Image → List ℕ → Image → List Staged → Stage → Type 0
StagedContents tells repository publisher t staged contents = (n : ℕ) (s : Staged) → slice_get staged n ≡ Some s
    → (bytes : List ℕ) × (contents n ≡ Some bytes) × IsContent tells repository publisher t s bytes

-- the faults that a payload can have, apart from what the repository holds: it is missing, too large, or its bytes have
-- another digest
abbrev pub IsPayloadFault : PayloadName → RepoFault → Type 0
IsPayloadFault name fault.NoRepository = ⊥
IsPayloadFault name (fault.BadCatalog why) = ⊥
IsPayloadFault name fault.ManifestMissing = ⊥
IsPayloadFault name (fault.BadManifest why) = ⊥
IsPayloadFault name fault.PayloadMissing = Unit {0}
IsPayloadFault name (fault.PayloadDamaged found) = found ≢ name
IsPayloadFault name (fault.Compressed found) = found ≢ name
IsPayloadFault name (fault.TooLarge which count) = (which ≡ PayloadBytes) × (payload_limit < count)
IsPayloadFault name fault.SourceFault = ⊥

-- the payload's file has this fault: there is none, it has more bytes than a payload may have, or its bytes are damaged
abbrev pub IsPayloadFileFault : PayloadName → Option (List ℕ) → RepoFault → Type 0
IsPayloadFileFault name file fault.NoRepository = ⊥
IsPayloadFileFault name file (fault.BadCatalog why) = ⊥
IsPayloadFileFault name file fault.ManifestMissing = ⊥
IsPayloadFileFault name file (fault.BadManifest why) = ⊥
IsPayloadFileFault name file fault.PayloadMissing = file ≡ None
IsPayloadFileFault name file (fault.PayloadDamaged found) = (bytes : List ℕ) × (file ≡ Some bytes) × (length bytes ≤ payload_limit) × IsDamage name bytes (fault.PayloadDamaged found)
IsPayloadFileFault name file (fault.Compressed found) = (bytes : List ℕ) × (file ≡ Some bytes) × (length bytes ≤ payload_limit) × IsDamage name bytes (fault.Compressed found)
IsPayloadFileFault name file (fault.TooLarge which count) = HasSize file count × (which ≡ PayloadBytes) × (payload_limit < count)
IsPayloadFileFault name file fault.SourceFault = ⊥

-- The payload's file has no fault.
pub record IsIntact (name : PayloadName) (file : Option (List ℕ)) : Type 0 where
  pub bytes : List ℕ
  pub stands : file ≡ Some bytes
  pub within : length bytes ≤ payload_limit
  pub intact : digest_by name bytes ≡ name

-- what is staged, where it is a payload, is one whose file has no fault
abbrev pub IsIntactContent : Image → List ℕ → Staged → Type 0
IsIntactContent repository publisher (Payload name) = IsIntact name (file_at repository (payload_place publisher name))
IsIntactContent repository publisher (Bytes given) = Unit {0}
IsIntactContent repository publisher (Standing path) = Unit {0}

-- so are all of the list
abbrev pub AreIntactContents : Image → List ℕ → List Staged → Type 0
AreIntactContents repository publisher staged = (n : ℕ) (s : Staged) → slice_get staged n ≡ Some s → IsIntactContent repository publisher s

-- what a fault of staging says of a payload: it has such a fault, and its file has it, where the repository tells what it holds
abbrev pub SaysOfPayload : Bool → Image → List ℕ → PayloadName → StageFault → Type 0
SaysOfPayload tells repository publisher name (stage.Payload other why) =
    (other ≡ name) × IsPayloadFault name why × (IsTrue tells → IsPayloadFileFault name (file_at repository (payload_place publisher name)) why)
SaysOfPayload tells repository publisher name stage.SourceFault = Unit {0}
SaysOfPayload tells repository publisher name stage.FolderFault = Unit {0}

-- what a fault of writing a payload that was opened says of it: these bytes have another digest than its name, and they are its file's, where
-- the repository tells what it holds
abbrev pub SaysOfOpened : Bool → Image → PayloadReading → StageFault → Type 0
SaysOfOpened tells repository p (stage.Payload other why) =
    (other ≡ p.name) × (bytes : List ℕ) × IsDamage p.name bytes why × (IsTrue tells → IsFrontOf repository p → file_at repository p.place ≡ Some bytes)
SaysOfOpened tells repository p stage.SourceFault = Unit {0}
SaysOfOpened tells repository p stage.FolderFault = Unit {0}

-- a payload's fault is told where a payload is to be staged
abbrev pub SaysOfContent : Bool → Image → List ℕ → Staged → StageFault → Type 0
SaysOfContent tells repository publisher (Payload name) why = SaysOfPayload tells repository publisher name why
SaysOfContent tells repository publisher (Bytes given) why = why ≡ stage.FolderFault
SaysOfContent tells repository publisher (Standing path) why = why ≡ stage.FolderFault

-- The first payload of the list that has a fault is this one, and this is its fault.
pub record IsFirstFault (repository : Image) (publisher : List ℕ) (staged : List Staged) (name : PayloadName) (why : RepoFault) : Type 0 where
  pub at : ℕ
  pub stands : slice_get staged at ≡ Some (Payload name)
  pub before : (n : ℕ) (s : Staged) → n < at → slice_get staged n ≡ Some s → IsIntactContent repository publisher s
  pub is : IsPayloadFileFault name (file_at repository (payload_place publisher name)) why

-- what a fault of staging says: a payload of the list has such a fault, and is the first that has one, where the repository
-- tells what it holds
abbrev pub SaysOfStage : Bool → Image → List ℕ → List Staged → StageFault → Type 0
SaysOfStage tells repository publisher staged (stage.Payload name why) = IsPayloadFault name why × (IsTrue tells → IsFirstFault repository publisher staged name why)
SaysOfStage tells repository publisher staged stage.SourceFault = Unit {0}
SaysOfStage tells repository publisher staged stage.FolderFault = Unit {0}

-- what is to be staged from the image is a file that stands there
abbrev pub IsStanding : Image → Staged → Type 0
IsStanding t (Payload name) = Unit {0}
IsStanding t (Bytes given) = Unit {0}
IsStanding t (Standing from) = IsTrue (is_file (t.look from.bytes))

-- so is each of the list
abbrev pub AreStanding : Image → List Staged → Type 0
AreStanding t staged = (n : ℕ) (s : Staged) → slice_get staged n ≡ Some s → IsStanding t s

-- what is to be staged from the image stands neither at nor below the path
abbrev pub IsApart : List ℕ → Staged → Type 0
IsApart path (Payload name) = Unit {0}
IsApart path (Bytes given) = Unit {0}
IsApart path (Standing from) = IsFalse (covers path from.bytes)

-- what is to be staged from the image stands at none of the updater's own names
abbrev pub IsSeen : Staged → Type 0
IsSeen (Payload name) = Unit {0}
IsSeen (Bytes given) = Unit {0}
IsSeen (Standing from) = IsFalse (is_private from.bytes)

-- so does each of the list
abbrev pub AreSeen : List Staged → Type 0
AreSeen staged = (n : ℕ) (s : Staged) → slice_get staged n ≡ Some s → IsSeen s

-- The file at the path has this mode and these bytes, and no other name.
pub record HoldsAlone (path : List ℕ) (mode : ℕ) (bytes : List ℕ) (t : Image) : Type 0 where
  pub file : t.look path ≡ Some (File mode bytes)
  pub sole : (q : List ℕ) → IsTrue (t.same path q) → q ≡ path

-- no content has a further name
abbrev pub AreAlone : Image → Type 0
AreAlone t = (n : ℕ) (q : List ℕ) → n < 2 ^ 64 → IsTrue (t.same (stage_path n) q) → q ≡ stage_path n

-- each content that the steps put is a file, with the mode of its put
abbrev pub HaveModes : List Step → Image → Type 0
HaveModes steps t = (k n m : ℕ) (p : List ℕ) → slice_get steps k ≡ Some (Put n m p) → (bytes : List ℕ) × (t.look (stage_path n) ≡ Some (File m bytes))

-- the mode of the content that a step puts
abbrev pub mode_put : Step → Option ℕ
mode_put (Gone p) = None
mode_put (Fresh m p) = None
mode_put (Mode m p) = None
mode_put (Put n m p) = Some m
mode_put (Symlink p target) = None
mode_put (Hard p to) = None

-- The first of the steps from a place on that puts a content puts it with this mode, and the next place is behind it. Where
-- none does, any mode and place will do.
pub record IsNextPut (steps : List Step) (place mode next : ℕ) : Type 0 where
  pub small : mode < 4096
  pub within : next ≤ length steps
  pub found : puts_in (take place steps) < puts_in steps → (k : ℕ) × (n : ℕ) × (p : List ℕ) × (slice_get steps k ≡ Some (Put n mode p))
      × (puts_in (take k steps) ≡ puts_in (take place steps)) × (next ≡ k + 1)

-- nothing stands below the stage but the first so many contents
abbrev pub HoldsOnly : ℕ → Image → Type 0
HoldsOnly count t = (q : List ℕ) → IsTrue (is_below stage_name q) → t.look q ≢ None → (n : ℕ) × (n < count) × (q ≡ stage_path n)
