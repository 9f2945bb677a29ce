-- Payloads, given piece by piece and judged by their digest.
use Rattle.std.specs.Prelude.{◌≡◌, ℕ, ◌<◌, ◌≤◌, Bool, false, ◌&&◌, ◌==◌, nat_lt, if◌then◌else◌, IsTrue, IsFalse, List, [], ◌∷◌, ◌++◌, length, take, slice_get, Option, Some, None, Result, Ok, Err}
use Rattle.ips_text.specs.declared.limits.Which.TheVariants.{PayloadBytes}
use Rattle.ips_outside.specs.Image.{Image}
use Rattle.ips_digest.specs.Digest.{algorithm_of, digest_of}
use Rattle.ips_digest.specs.declared.name.PayloadName.{PayloadName}
use Rattle.ips_files.specs.Files.{file_at}
use Rattle.ips_repo.specs.Places.{payload_place}
use Rattle.ips_files.specs.declared.reading.FileFault.{FileFault}
use Rattle.ips_files.specs.declared.reading.FileFault.TheVariants as file
use Rattle.ips_repo.specs.declared.fault.RepoFault.{RepoFault}
use Rattle.ips_repo.specs.declared.fault.RepoFault.TheVariants as fault

-- A payload that is being read: its name, the place of its file, the size that the file had, the bytes given so far, and
-- whether the last piece that was given had no bytes, which is the end.
pub record PayloadReading : Type 0 where
  pub name : PayloadName
  pub place : List ℕ
  pub size : ℕ
  pub bytes : List ℕ
  pub ended : Bool

-- the most bytes that a payload may have: 4 GiB
abbrev pub payload_limit : ℕ
payload_limit = 4294967296

-- A payload that was opened: nothing of it was given yet, and its file isn't too large.
pub record IsOpened (place : List ℕ) (name : PayloadName) (r : PayloadReading) : Type 0 where
  pub named : r.name ≡ name
  pub placed : r.place ≡ place
  pub nothing_given : r.bytes ≡ []
  pub not_ended : r.ended ≡ false
  pub within : r.size ≤ payload_limit

-- what opening the payload of this name in this file means: it is missing, too large, or opened with the size of the file
abbrev pub payload_in : PayloadName → List ℕ → Option (List ℕ) → Result PayloadReading RepoFault
payload_in name place None = Err fault.PayloadMissing
payload_in name place (Some bytes) =
    if nat_lt payload_limit (length bytes)
    then Err (fault.TooLarge PayloadBytes (length bytes))
    else Ok (record { name = name; place = place; size = length bytes; bytes = []; ended = false })

-- what opening a payload of the publisher means, by the file at its place
abbrev pub payload_opening : List ℕ → PayloadName → Image → Result PayloadReading RepoFault
payload_opening publisher name t =
    let place = payload_place publisher name in payload_in name place (file_at t place)

-- The faults of opening a payload: it is missing, it has more bytes than a payload may have, or a call failed.
abbrev pub IsOpenFault : RepoFault → Type 0
IsOpenFault fault.NoRepository = ⊥
IsOpenFault (fault.BadCatalog why) = ⊥
IsOpenFault fault.ManifestMissing = ⊥
IsOpenFault (fault.BadManifest why) = ⊥
IsOpenFault fault.PayloadMissing = Unit {0}
IsOpenFault (fault.PayloadDamaged found) = ⊥
IsOpenFault (fault.Compressed found) = ⊥
IsOpenFault (fault.TooLarge which count) = (which ≡ PayloadBytes) × (payload_limit < count)
IsOpenFault fault.SourceFault = Unit {0}

-- the fault of opening a payload by the fault of looking for its file
abbrev pub fault_of_opening : FileFault → RepoFault
fault_of_opening file.Missing = fault.PayloadMissing
fault_of_opening (file.TooLarge count) = fault.TooLarge PayloadBytes count
fault_of_opening file.SourceFault = fault.SourceFault

-- The same payload before its first piece.
abbrev pub from_start : PayloadReading → PayloadReading
from_start r = record r { bytes = []; ended = false }

-- Behind one more piece, of so many bytes from the front of the buffer.
abbrev pub with_piece : ℕ → List ℕ → PayloadReading → PayloadReading
with_piece count buffer r = record r { bytes = r.bytes ++ take count buffer; ended = count == 0 }

-- A file of the size that was seen stands at the place, its first bytes are those given so far, and once the end was told
-- they are all of it.
pub record IsFrontOf (t : Image) (r : PayloadReading) : Type 0 where
  pub file : List ℕ
  pub stands : file_at t r.place ≡ Some file
  pub sized : length file ≡ r.size
  pub front : r.bytes ≡ take (length r.bytes) file
  pub whole : IsTrue r.ended → r.bytes ≡ file

-- the bytes begin as a gzip file does (RFC 1952, section 2.3.1): with 1f and 8b
abbrev pub is_gzip : List ℕ → Bool
is_gzip [] = false
is_gzip (a ∷ []) = false
is_gzip (a ∷ b ∷ bytes) = (a == 31) && (b == 139)

-- the digest of the bytes, by the hash function of the name
abbrev pub digest_by : PayloadName → List ℕ → PayloadName
digest_by name bytes = digest_of (algorithm_of name) bytes

-- What is wrong with a payload: its bytes have another digest than its name, the one that is told, and they begin as a gzip
-- file does, or they don't.
abbrev pub IsDamage : PayloadName → List ℕ → RepoFault → Type 0
IsDamage name bytes fault.NoRepository = ⊥
IsDamage name bytes (fault.BadCatalog why) = ⊥
IsDamage name bytes fault.ManifestMissing = ⊥
IsDamage name bytes (fault.BadManifest why) = ⊥
IsDamage name bytes fault.PayloadMissing = ⊥
IsDamage name bytes (fault.PayloadDamaged found) = (found ≡ digest_by name bytes) × (found ≡ name → ⊥) × IsFalse (is_gzip bytes)
IsDamage name bytes (fault.Compressed found) = (found ≡ digest_by name bytes) × (found ≡ name → ⊥) × IsTrue (is_gzip bytes)
IsDamage name bytes (fault.TooLarge which count) = ⊥
IsDamage name bytes fault.SourceFault = ⊥

-- The payload of this name is intact in the repository: its file has these bytes, not too many, and their digest is the name.
pub record IsIntact (publisher : List ℕ) (t : Image) (name : PayloadName) (bytes : List ℕ) : Type 0 where
  pub stands : file_at t (payload_place publisher name) ≡ Some bytes
  pub within : length bytes ≤ payload_limit
  pub named : digest_by name bytes ≡ name

-- so is one with some bytes
abbrev pub HasIntact : List ℕ → Image → PayloadName → Type 0
HasIntact publisher t name = (bytes : List ℕ) × IsIntact publisher t name bytes

-- so is each of the payloads
abbrev pub AreIntact : List ℕ → Image → List PayloadName → Type 0
AreIntact publisher t names = (n : ℕ) (name : PayloadName) → slice_get names n ≡ Some name → HasIntact publisher t name

-- These bytes are a payload of the publisher: their digest is its name, and where the repository tells what it holds, they are
-- the file at its place.
pub record IsPayload (tells : Bool) (publisher : List ℕ) (t : Image) (name : PayloadName) (bytes : List ℕ) : Type 0 where
  pub named : digest_by name bytes ≡ name
  pub held : IsTrue tells → file_at t (payload_place publisher name) ≡ Some bytes
