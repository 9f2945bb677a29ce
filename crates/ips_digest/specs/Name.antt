-- Payload names, and how they are spelled.
use Rattle.std.specs.Prelude.{◌≡◌, ℕ, ◌⊎◌, Bool, ◌&&◌, ◌||◌, nat_le, List, length, Option, Some, None}
use Rattle.std.specs.List.{AllPass}
use Rattle.hex.specs.Hex.{IsBytes, encode_lower}
use Rattle.ips_digest.specs.declared.name.PayloadName.{PayloadName}
use Rattle.ips_digest.specs.declared.name.PayloadName.TheVariants.{Sha1, Sha256}

-- a name has the bytes of a digest: 20 of SHA-1, 32 of SHA-256
abbrev pub IsName : PayloadName → Type 0
IsName (Sha1 bytes) = (length bytes ≡ 20) × IsBytes bytes
IsName (Sha256 bytes) = (length bytes ≡ 32) × IsBytes bytes

-- two hex digits for each byte of the digest, with lower-case letters
unfoldable pub spelling : PayloadName → List ℕ
spelling (Sha1 bytes) = encode_lower bytes
spelling (Sha256 bytes) = encode_lower bytes

-- how many digits a name is spelled in
abbrev pub digit_count : PayloadName → ℕ
digit_count (Sha1 bytes) = 40
digit_count (Sha256 bytes) = 64

-- `0` to `9` and `a` to `f`
abbrev pub is_lower_digit : ℕ → Bool
is_lower_digit c = (nat_le 48 c && nat_le c 57) || (nat_le 97 c && nat_le c 102)

-- 40 or 64 lower-case hex digits
pub record AreNameDigits (text : List ℕ) : Type 0 where
  pub count : (length text ≡ 40) ⊎ (length text ≡ 64)
  pub digits : AllPass is_lower_digit text

-- what a text reads as: the name that it spells, or none where it isn't the digits of a name
abbrev pub IsReading : List ℕ → Option PayloadName → Type 0
IsReading text (Some name) = IsName name × (text ≡ spelling name)
IsReading text None = AreNameDigits text → ⊥
