-- What is laid, and what is changed meanwhile.
use Rattle.std.specs.Prelude.{◌≡◌, ◌⊎◌, ℕ, ◌≤◌, Bool, IsTrue, List, length, Option, Some}
use Rattle.std.specs.List.{Contains}
use Rattle.ips_text.specs.Ancestry.{covers}
use Rattle.ips_outside.specs.Image.{Image, File}
use Rattle.ips_outside.specs.Outside.{Outside}
use Rattle.ips_folder.specs.Calls.{ChangesOnly}
use Rattle.ips_digest.specs.declared.name.PayloadName.{PayloadName}
use Rattle.ips_repo.specs.Places.{payload_place}
use Rattle.ips_repo.specs.Payload.{payload_limit, digest_by, HasIntact}

-- A file of mode 0644 stands at the path, whose bytes have this name, and not too many.
pub record HasLaid (path : List ℕ) (name : PayloadName) (t : Image) : Type 0 where
  pub bytes : List ℕ
  pub stands : t.look path ≡ Some (File 420 bytes)
  pub within : length bytes ≤ payload_limit
  pub named : digest_by name bytes ≡ name

-- it is no file whose bytes have this name, or one of too many bytes
abbrev pub IsNotThere : PayloadName → Option (List ℕ) → Type 0
IsNotThere name file = (bytes : List ℕ) → file ≡ Some bytes → length bytes ≤ payload_limit → digest_by name bytes ≡ name → ⊥

-- the path is at or below the place of one of these payloads, which isn't intact
abbrev pub IsAtUnlaid : List ℕ → Image → List PayloadName → List ℕ → Type 0
IsAtUnlaid publisher t names q = (name : PayloadName) × Contains names name × (HasIntact publisher t name → ⊥) × IsTrue (covers (payload_place publisher name) q)

-- At every moment only what is at or below the places of payloads that weren't intact is changed and touched.
pub record LaysBeside {F : Type 0} (o : Outside F) (publisher : List ℕ) (names : List PayloadName) (old new : F) : Type 0 where
  pub free : List ℕ → Bool
  pub unlaid : (q : List ℕ) → IsTrue (free q) → IsAtUnlaid publisher (o.state old).held names q
  pub only : ChangesOnly o free free old new
