-- What account files and records lay.
use Rattle.std.specs.Prelude.{◌≡◌, ℕ, false, List, Option, Some}
use Rattle.std.specs.Option.{option_map}
use Rattle.ips_digest.specs.Name.{spelling}
use Rattle.ips_outside.specs.Image.{Dir, Entry, File}
use Rattle.ips_after.specs.Request.{Over}
use Rattle.ips_laying.specs.declared.laying.Laid.{Laid as Told}
use Rattle.ips_laying.specs.declared.laying.Laid.TheVariants as told

-- An entry that is laid: a directory with its mode, a file with its mode and bytes, or a file with its mode and a payload, by the spelling of its name.
pub data Laid : Type 0 where
  LaidDir : ℕ → Laid
  LaidFile : ℕ → List ℕ → Laid
  LaidPayload : ℕ → List ℕ → Laid

-- what is laid, as a call tells it
abbrev pub laid_told : Told → Laid
laid_told (told.Dir mode) = LaidDir mode
laid_told (told.File mode bytes) = LaidFile mode bytes.items
laid_told (told.Payload mode payload) = LaidPayload mode (spelling payload)

-- the entry that is laid, with the bytes of each payload
abbrev pub entry_laid : (List ℕ → List ℕ) → Laid → Entry
entry_laid bytes (LaidDir m) = Dir m false
entry_laid bytes (LaidFile m b) = File m b
entry_laid bytes (LaidPayload m payload) = File m (bytes payload)

-- What account files and records lay at a path is this.
abbrev pub IsLaidBy : (List ℕ → List ℕ) → (List ℕ → Option Laid) → Over → List ℕ → Type 0
IsLaidBy bytes laid o q = (e : Entry) → o.at q ≡ Some (Some e) → option_map (entry_laid bytes) (laid q) ≡ Some e

-- What account files and records lay is this, with the bytes of each payload.
abbrev pub LaysFor : (List ℕ → List ℕ) → (List ℕ → Option Laid) → Over → Type 0
LaysFor bytes laid o = (q : List ℕ) → IsLaidBy bytes laid o q
