-- The digits of a payload's name are names of files.
use Rattle.std.proofs.Common.{◌≡◌, ℕ, suc, ◌/◌, ◌%◌, ◌<◌, ◌≤◌, Bool, true, false, ◌&&◌, ◌==◌, not, List, [], ◌∷◌, length, take, refl, arith}
use Rattle.std.specs.Prelude.{slice_index}
use Rattle.std.specs.List.{list_all}
use Rattle.std.proofs.lemmas.Bool.{agree_below_at, and_parts}
use Rattle.hex.specs.Hex.{IsBytes, encode_lower, encode_with, lower_digits}
use Rattle.hex.proofs.HexLemmas.{length-encode_with}
use Rattle.ips_digest.specs.Name.{IsName, spelling}
use Rattle.ips_digest.specs.declared.name.PayloadName.{PayloadName}
use Rattle.ips_digest.specs.declared.name.PayloadName.TheVariants.{Sha1, Sha256}
use Rattle.ips_text.proofs.Truths.{not_true}
use Rattle.ips_records.proofs.Joined.{is_name_byte, IsFileName}
use Rattle.ips_records.proofs.FileNames.{no_dots_from}

-- a byte of a name that is no dot
abbrev is_digit_byte : ℕ → Bool
is_digit_byte b = is_name_byte b && not (b == 46)

table_digit : (d : ℕ) → d < 16 → is_digit_byte (slice_index lower_digits d) ≡ true
table_digit d lt = agree_below_at (λ k. is_digit_byte (slice_index lower_digits k)) (λ _. true) 16 d refl lt

hex_digits : (bytes : List ℕ) → IsBytes bytes → list_all is_digit_byte (encode_lower bytes) ≡ true
unfolding encode_with
hex_digits [] h = refl
hex_digits (b ∷ bytes) h =
    let fits : b < 256 = h 0 in
    rw (table_digit (b / 16) (omega arith), table_digit (b % 16) (omega arith), hex_digits bytes (λ k. h (suc k))) refl

digit_name : (b : ℕ) → is_digit_byte b ≡ true → (is_name_byte b ≡ true) × ((b == 46) ≡ false)
digit_name b e = let h = and_parts (is_name_byte b) (not (b == 46)) e in (h.0, not_true (b == 46) h.1)

digit_bytes : (ds : List ℕ) → list_all is_digit_byte ds ≡ true → list_all is_name_byte ds ≡ true
digit_bytes [] e = refl
digit_bytes (b ∷ ds) e = let h = and_parts (is_digit_byte b) (list_all is_digit_byte ds) e in rw ((digit_name b h.0).0, digit_bytes ds h.1) refl

digits_name : (ds : List ℕ) → list_all is_digit_byte ds ≡ true → 0 < length ds → length ds ≤ 255 → IsFileName ds
digits_name [] e some few = absurd (omega arith)
digits_name (b ∷ ds) e some few = record {
  bytes = digit_bytes (b ∷ ds) e;
  some = some;
  few = few;
  no_dots = no_dots_from b ds (digit_name b (and_parts (is_digit_byte b) (list_all is_digit_byte ds) e).0).1;
}

-- the digits of a name, and the first two
pub record AreDigits (ds : List ℕ) : Type 0 where
  pub all : IsFileName ds
  pub front : IsFileName (take 2 ds)
  pub short : length ds ≤ 64

digits_are : (ds : List ℕ) → list_all is_digit_byte ds ≡ true → 2 < length ds → length ds ≤ 64 → AreDigits ds
digits_are [] e some few = absurd (omega arith)
digits_are (a ∷ []) e some few = absurd (omega arith)
digits_are (a ∷ b ∷ ds) e some few =
    let h = and_parts (is_digit_byte a) (list_all is_digit_byte (b ∷ ds)) e in
    let t = and_parts (is_digit_byte b) (list_all is_digit_byte ds) h.1 in
    record {
      all = digits_name (a ∷ b ∷ ds) e (omega arith) (omega arith);
      front = digits_name (a ∷ b ∷ []) (rw (h.0, t.0) refl) (omega arith) (omega arith);
      short = few;
    }

pub payload_digits : (name : PayloadName) → IsName name → AreDigits (spelling name)
unfolding spelling
payload_digits (Sha1 bytes) h = digits_are (encode_lower bytes) (hex_digits bytes h.1) (omega (arith, length-encode_with lower_digits bytes, h.0)) (omega (arith, length-encode_with lower_digits bytes, h.0))
payload_digits (Sha256 bytes) h = digits_are (encode_lower bytes) (hex_digits bytes h.1) (omega (arith, length-encode_with lower_digits bytes, h.0)) (omega (arith, length-encode_with lower_digits bytes, h.0))
