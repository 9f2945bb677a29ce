-- Lists of contents.
use Rattle.std.specs.Prelude.{◌≡◌, ℕ, ◌<◌, List, map, slice_get, Some}
use Rattle.std.specs.List.{Contains}
use Rattle.ips_text.specs.declared.refusal.Or.{Or}
use Rattle.ips_text.specs.declared.refusal.Or.TheVariants.{Bad, OutOfMemory}
use Rattle.ips_outside.specs.Image.{Image}
use Rattle.ips_digest.specs.Name.{IsName}
use Rattle.ips_digest.specs.declared.name.PayloadName.{PayloadName}
use Rattle.ips_files.specs.Files.{file_at}
use Rattle.ips_repo.specs.Places.{payload_place}
use Rattle.ips_repo.specs.Payload.{HasIntact}
use Rattle.ips_lay.specs.declared.content.Content.{Content}
use Rattle.ips_lay.specs.declared.content.ContentFault.{ContentFault}
use Rattle.ips_lay.specs.declared.content.ContentFault.TheVariants as one
use Rattle.ips_lay.specs.declared.content.LayFault.{LayFault}
use Rattle.ips_lay.specs.declared.content.LayFault.TheVariants.{Missing, SourceFault, FolderFault}
use Rattle.ips_lay.specs.Laid.{IsNotThere}

-- the names of contents
abbrev pub names_of : List Content → List PayloadName
names_of contents = map (λ (c : Content). c.name) contents

-- each name is one
abbrev pub AreNames : List Content → Type 0
AreNames contents = (n : ℕ) (c : Content) → slice_get contents n ≡ Some c → IsName c.name

-- each content is to stand at the place of its name
abbrev pub ArePlaced : List ℕ → List Content → Type 0
ArePlaced publisher contents = (n : ℕ) (c : Content) → slice_get contents n ≡ Some c → c.place.bytes ≡ payload_place publisher c.name

-- each of the payloads is intact
abbrev pub AreAllIntact : List ℕ → Image → List PayloadName → Type 0
AreAllIntact publisher t names = (name : PayloadName) → Contains names name → HasIntact publisher t name

-- what a fault says of the source: at the path of that content no file has its name
abbrev pub SaysOfLay : Image → List Content → LayFault → Type 0
SaysOfLay source contents (Missing at) = (c : Content) × (slice_get contents at ≡ Some c) × IsNotThere c.name (file_at source c.path.bytes)
SaysOfLay source contents SourceFault = Unit {0}
SaysOfLay source contents FolderFault = Unit {0}

-- the content that a fault tells of is one of so many
abbrev pub IsCounted : ℕ → LayFault → Type 0
IsCounted count (Missing at) = at < count
IsCounted count SourceFault = Unit {0}
IsCounted count FolderFault = Unit {0}

-- a fault of the content with this number
abbrev pub fault_at : ℕ → Or ContentFault → Or LayFault
fault_at number (Bad one.Missing) = Bad (Missing number)
fault_at number (Bad one.SourceFault) = Bad SourceFault
fault_at number (Bad one.FolderFault) = Bad FolderFault
fault_at number OutOfMemory = OutOfMemory
