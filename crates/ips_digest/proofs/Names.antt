-- Lower-case hex digits and the bytes that they spell.
use Rattle.std.proofs.Common.{◌≡◌, ℕ, zero, suc, ◌+◌, ◌*◌, ◌/◌, ◌%◌, ◌<◌, ◌==◌, Bool, true, ◌||◌, not, inl, inr, List, [], ◌∷◌, length, slice_index, Option, Some, None, Ok, unwrap_or, refl, sym, ap, ◌∙◌, arith}
use Rattle.std.specs.Prelude.{◌↔◌, IfSome, IsSome}
use Rattle.std.specs.Result.{result_ok}
use Rattle.std.specs.List.{AllPass}
use Rattle.std.proofs.lemmas.Bool.{agree_below_at, eqb-true}
use Rattle.std.proofs.lemmas.List.Elements.{All-cons, All-head, All-nil, All-tail}
use Rattle.hex.specs.Hex.{IsBytes, decode_of, decode_sized, encode_lower, encode_with, hex_digit_value, lower_digits}
use Rattle.hex.proofs.HexLemmas.{decode_of-encode_lower, decode_of-same, decode_sized-encode_lower, decode_sized-ok, length-encode_with}
use Rattle.ips_digest.specs.Name.{AreNameDigits, IsName, IsReading, is_lower_digit, spelling}
use Rattle.ips_digest.specs.declared.name.PayloadName.{PayloadName}
use Rattle.ips_digest.specs.declared.name.PayloadName.TheVariants.{Sha1, Sha256}

-- a byte passes the test of lower-case digits
abbrev is_lower : ℕ → Type 0
is_lower c = is_lower_digit c ≡ true

-- the value of a digit, or 99
abbrev value_or : ℕ → ℕ
value_or c = unwrap_or (hex_digit_value c) 99

-- a lower-case digit stands in the table at its value, which is below 16
abbrev stands : ℕ → Bool
stands c = not (is_lower_digit c) || (slice_index lower_digits (value_or c) == c)

stands_at : (c : ℕ) → is_lower c → slice_index lower_digits (value_or c) ≡ c
stands_at c h =
    let below : c < 103 = grind (arith) in
    let e = agree_below_at stands (λ _. true) 103 c refl below in
    eqb-true (slice_index lower_digits (value_or c)) c (rw h at e)

value_or-small : (c : ℕ) → is_lower c → value_or c < 16
value_or-small c h = grind (arith)

-- each place of the table has a lower-case digit
place_is_lower : (d : ℕ) → d < 16 → is_lower (slice_index lower_digits d)
place_is_lower d h = agree_below_at (λ k. is_lower_digit (slice_index lower_digits k)) (λ _. true) 16 d refl h

-- a byte in front of bytes
IsBytes-cons : (b : ℕ) (rest : List ℕ) → b < 256 → IsBytes rest → IsBytes (b ∷ rest)
IsBytes-cons b rest h hs zero = h
IsBytes-cons b rest h hs (suc i) = hs i

-- an even number of lower-case digits spells bytes
pub lower_text : (text : List ℕ) → length text % 2 ≡ 0 → AllPass is_lower_digit text
    → (bytes : List ℕ) × (text ≡ encode_lower bytes) × IsBytes bytes
unfolding encode_with
lower_text [] even h = ([], refl, λ k. omega arith)
lower_text (a ∷ []) even h = absurd (omega arith)
lower_text (a ∷ b ∷ rest) even h =
    let tail = All-tail is_lower a (b ∷ rest) h in
    let ha = All-head is_lower a (b ∷ rest) h in
    let hb = All-head is_lower b rest tail in
    let more = lower_text rest (omega arith) (All-tail is_lower b rest tail) in
    let high : value_or a < 16 = value_or-small a ha in
    let low : value_or b < 16 = value_or-small b hb in
    let byte : ℕ = value_or a * 16 + value_or b in
    let first : byte / 16 ≡ value_or a = omega arith in
    let second : byte % 16 ≡ value_or b = omega arith in
    (byte ∷ more.0, rw (first, second, stands_at a ha, stands_at b hb, ← more.1) refl, IsBytes-cons byte more.0 (omega arith) more.2)

-- two digits for each byte
encode_lower-length : (bytes : List ℕ) → length (encode_lower bytes) ≡ 2 * length bytes
encode_lower-length bytes = length-encode_with lower_digits bytes

-- lower-case digits decode to the bytes that they spell
lower_decodes : (text : List ℕ) (n : ℕ) → AllPass is_lower_digit text → length text ≡ 2 * n
    → (bytes : List ℕ) × (decode_sized text n ≡ Ok bytes) × (length bytes ≡ n) × IsBytes bytes × (text ≡ encode_lower bytes)
lower_decodes text n h len =
    let found = lower_text text (omega arith) h in
    let same : length found.0 ≡ n = omega (arith, ap length found.1, encode_lower-length found.0) in
    (found.0, ap (λ (t : List ℕ). decode_sized t n) found.1 ∙ decode_sized-encode_lower found.0 n same found.2, same, found.2, found.1)

-- what decoding lower-case digits gives, where they are two for each of n bytes, and nothing else
pub lower_read : (text : List ℕ) (n : ℕ) (read : Option (List ℕ)) → AllPass is_lower_digit text
    → read ≡ result_ok (decode_sized text n)
    → (IsSome read ↔ ((length text ≡ 2 * n) × AllPass is_lower_digit text))
    × IfSome read (λ bytes. (length bytes ≡ n) × IsBytes bytes × (text ≡ encode_lower bytes))
lower_read text n (Some bytes) h e =
    let ok : decode_sized text n ≡ Ok bytes = grind (arith) in
    let len = decode_sized-ok text n bytes ok in
    let found = lower_decodes text n h len in
    let same : found.0 ≡ bytes = cc (sym found.1 ∙ ok) in
    ((λ some. (len, h), λ all. refl), rw (← same) (found.2, found.3, found.4))
lower_read text n None h e =
    ((λ some. cc some, λ all. let found = lower_decodes text n h all.0 in cc (e, found.1)), tt)

-- bytes are spelled in lower-case digits
encode_lower-digits : (bytes : List ℕ) → IsBytes bytes → AllPass is_lower_digit (encode_lower bytes)
unfolding encode_with
encode_lower-digits [] h = All-nil is_lower
encode_lower-digits (b ∷ rest) h =
    let fits : b < 256 = h 0 in
    let high = slice_index lower_digits (b / 16) in
    let low = slice_index lower_digits (b % 16) in
    All-cons is_lower high (low ∷ encode_lower rest) (place_is_lower (b / 16) (omega arith))
    (All-cons is_lower low (encode_lower rest) (place_is_lower (b % 16) (omega arith)) (encode_lower-digits rest (λ k. h (suc k))))

-- no two lists of bytes have one spelling
encode_lower-once : (a b : List ℕ) → IsBytes a → IsBytes b → encode_lower a ≡ encode_lower b → a ≡ b
encode_lower-once a b ha hb e =
    decode_of-same (encode_lower b) a b (ap decode_of (sym e) ∙ decode_of-encode_lower a ha) (decode_of-encode_lower b hb)

-- names of one spelling are equal
pub spelled_once : (a b : PayloadName) → IsName a → IsName b → spelling a ≡ spelling b → a ≡ b
unfolding spelling
spelled_once (Sha1 x) (Sha1 y) ha hb e = ap Sha1 (encode_lower-once x y ha.1 hb.1 e)
spelled_once (Sha256 x) (Sha256 y) ha hb e = ap Sha256 (encode_lower-once x y ha.1 hb.1 e)
spelled_once (Sha1 x) (Sha256 y) ha hb e =
    absurd (omega (arith, ap length e, encode_lower-length x, encode_lower-length y))
spelled_once (Sha256 x) (Sha1 y) ha hb e =
    absurd (omega (arith, ap length e, encode_lower-length x, encode_lower-length y))

-- a name is spelled in the digits of a name
pub spelled_digits : (name : PayloadName) → IsName name → AreNameDigits (spelling name)
unfolding spelling
spelled_digits (Sha1 bytes) h = record {
  count = inl (omega (arith, encode_lower-length bytes));
  digits = encode_lower-digits bytes h.1;
}
spelled_digits (Sha256 bytes) h = record {
  count = inr (omega (arith, encode_lower-length bytes));
  digits = encode_lower-digits bytes h.1;
}

-- the digits that spell a name read as that name
pub read_only : (text : List ℕ) (read : Option PayloadName) → IsReading text read
    → (name : PayloadName) → IsName name → text ≡ spelling name → read ≡ Some name
read_only text (Some other) found name h e =
    ap (λ (n : PayloadName). Some n) (spelled_once other name found.0 h (sym found.1 ∙ e))
read_only text None none name h e = absurd (none (rw e (spelled_digits name h)))
