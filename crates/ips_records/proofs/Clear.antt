-- Fields have neither blanks nor newlines.
use Rattle.std.proofs.Common.{◌≡◌, ℕ, ◌+◌, ◌/◌, ◌%◌, ◌<◌, ◌≤◌, ◌^◌, Bool, true, false, ◌&&◌, eqb, List, [], ◌∷◌, ◌++◌, Option, Some, None, refl, sym, ◌∙◌, ap, arith}
use Rattle.std.specs.Prelude.{nat_lt}
use Rattle.std.specs.List.{list_all}
use Rattle.std.specs.Char.{digit_value}
use Rattle.std.specs.Fmt.{decimal}
use Rattle.std.specs.Str.Parse.{AllDigits}
use Rattle.std.proofs.lemmas.Bool.{agree_below_at, and_parts}
use Rattle.std.proofs.lemmas.Bool.Decides.{nat_tests}
use Rattle.std.proofs.lemmas.Fmt.{decimal_is_IsNumeral}
use Rattle.std.proofs.lemmas.List.Concat.{flat_map-cons}
use Rattle.std.proofs.lemmas.List.Folds.{list_all-append}
use Rattle.ips_text.specs.Quote.{quoted, quoted_byte, AreBytes}
use Rattle.ips_fmri.specs.Version.{Parts, numerals, part_text, stamp_text, stamp_part_text, version_text, AreNumbers, IfNumbers, IsVersion, IfVersion}
use Rattle.ips_text.specs.Cut.{has_byte}
use Rattle.ips_text.proofs.Bytes.{text_bytes}
use Rattle.ips_records.specs.Form.{IsWord, IfMarked}
use Rattle.ips_records.specs.Field.{version_field, word_field}

-- the byte stands behind the blank
abbrev pub is_clear_byte : ℕ → Bool
is_clear_byte b = nat_lt 32 b

-- each byte does
abbrev pub is_clear : List ℕ → Bool
is_clear bytes = list_all is_clear_byte bytes

pub clear_append : (x y : List ℕ) → is_clear x ≡ true → is_clear y ≡ true → is_clear (x ++ y) ≡ true
clear_append x y ex ey = list_all-append is_clear_byte x y ∙ rw (ex, ey) refl

clear_apart : (c b : ℕ) → c ≤ 32 → is_clear_byte b ≡ true → eqb b c ≡ false
clear_apart c b le e = grind (arith, nat_tests)

-- neither a blank nor a newline stands there
pub clear_lacks : (c : ℕ) (bytes : List ℕ) → c ≤ 32 → is_clear bytes ≡ true → has_byte c bytes ≡ false
clear_lacks c [] le e = refl
clear_lacks c (b ∷ bytes) le e = let h = and_parts (is_clear_byte b) (is_clear bytes) e in rw (clear_apart c b le h.0, clear_lacks c bytes le h.1) refl

byte_clear : (b : ℕ) → b < 256 → is_clear (quoted_byte b) ≡ true
byte_clear b lt = agree_below_at (λ b. is_clear (quoted_byte b)) (λ b. true) 256 b refl lt

pub quoted_clear : (bytes : List ℕ) → AreBytes bytes → is_clear (quoted bytes) ≡ true
unfolding quoted
quoted_clear [] h = refl
quoted_clear (b ∷ bytes) h = ap is_clear (flat_map-cons quoted_byte b bytes) ∙ clear_append (quoted_byte b) (quoted bytes) (byte_clear b h.0) (quoted_clear bytes h.1)

pub word_clear : (word : List ℕ) → IsWord word → is_clear (quoted word) ≡ true
word_clear word w = quoted_clear word (text_bytes word w.text)

digit_clear : (d : ℕ) → digit_value d < 10 → is_clear_byte d ≡ true
digit_clear d lt = grind (arith, nat_tests)

digits_clear : (ds : List ℕ) → AllDigits 10 ds → is_clear ds ≡ true
digits_clear [] h = refl
digits_clear (d ∷ ds) h = rw (digit_clear d h.0, digits_clear ds h.1) refl

number_clear : (n : ℕ) → n < 2 ^ 64 → is_clear (decimal n) ≡ true
number_clear n lt = digits_clear (decimal n) (decimal_is_IsNumeral n lt).0.1

numerals_clear : (ns : List ℕ) → AreNumbers ns → is_clear (numerals ns) ≡ true
numerals_clear [] h = absurd h
numerals_clear (n ∷ []) h = number_clear n h
numerals_clear (n ∷ m ∷ ns) h = clear_append (decimal n) (46 ∷ numerals (m ∷ ns)) (number_clear n h.0) (numerals_clear (m ∷ ns) h.1)

part_clear : (mark : ℕ) (ns : List ℕ) → is_clear_byte mark ≡ true → IfNumbers ns → is_clear (part_text mark ns) ≡ true
part_clear mark [] e h = refl
part_clear mark (n ∷ ns) e h = rw (e, numerals_clear (n ∷ ns) h) refl

two_clear : (n : ℕ) → (is_clear_byte (48 + n % 100 / 10) ≡ true) × (is_clear_byte (48 + n % 100 % 10) ≡ true)
two_clear n = (above (n % 100 / 10), above (n % 100 % 10))
  where
    above : (d : ℕ) → is_clear_byte (48 + d) ≡ true
    above d = grind (arith, nat_tests)

pub stamp_clear : (n : ℕ) → is_clear (stamp_text n) ≡ true
stamp_clear n =
    let a = two_clear (n / 10 ^ 12) in
    let b = two_clear (n / 10 ^ 10) in
    let c = two_clear (n / 10 ^ 8) in
    let d = two_clear (n / 10 ^ 6) in
    let e = two_clear (n / 10 ^ 4) in
    let f = two_clear (n / 10 ^ 2) in
    let g = two_clear n in
    rw (a.0, a.1, b.0, b.1, c.0, c.1, d.0, d.1, e.0, e.1, f.0, f.1, g.0, g.1) refl

stamp_part_clear : (stamp : Option ℕ) → is_clear (stamp_part_text stamp) ≡ true
stamp_part_clear None = refl
stamp_part_clear (Some n) = stamp_clear n

pub version_clear : (v : Parts) → IsVersion v → is_clear (version_text v) ≡ true
version_clear v s =
    let release = numerals v.release in
    let build = part_text 44 v.build in
    let branch = part_text 45 v.branch in
    let stamp = stamp_part_text v.stamp in
    clear_append (release ++ build ++ branch) stamp (clear_append (release ++ build) branch (clear_append release build (numerals_clear v.release s.parts.release) (part_clear 44 v.build refl s.parts.build)) (part_clear 45 v.branch refl s.parts.branch)) (stamp_part_clear v.stamp)

pub version_field_clear : (v : Option Parts) → IfVersion v → is_clear (version_field v) ≡ true
version_field_clear None h = refl
version_field_clear (Some v) h = version_clear v h

pub word_field_clear : (w : Option (List ℕ)) → IfMarked w → is_clear (word_field w) ≡ true
word_field_clear None h = refl
word_field_clear (Some w) h = word_clear w h.0
