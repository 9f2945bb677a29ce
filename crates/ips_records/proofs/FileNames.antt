-- Publishers, quoted stems and quoted versions are names of files, and stems and versions are ASCII.
use Rattle.std.proofs.Common.{◌≡◌, ℕ, suc, ◌+◌, ◌/◌, ◌%◌, ◌<◌, ◌≤◌, ◌^◌, Bool, true, false, cond, ◌&&◌, ◌==◌, not, List, [], ◌∷◌, ◌++◌, length, take, Option, Some, None, refl, sym, ◌∙◌, ap, arith, length-append}
use Rattle.std.specs.Prelude.{nat_le, nat_lt, slice_index}
use Rattle.std.specs.List.{list_all, slice_split, onto_first, join_with_byte}
use Rattle.std.specs.Char.{is_ascii_alphanumeric, digit_value}
use Rattle.std.specs.Fmt.{decimal}
use Rattle.std.specs.Str.{IsAscii, IsUtf8}
use Rattle.std.proofs.lemmas.Str.{IsUtf8-from_ascii}
use Rattle.std.proofs.lemmas.Str.Ascii.{IsAscii-from_all}
use Rattle.std.proofs.lemmas.List.Sums.{AllPass-from_list_all}
use Rattle.std.specs.Str.Parse.{IsNumeral}
use Rattle.std.proofs.lemmas.Bool.{agree_below_at, and_parts}
use Rattle.std.proofs.lemmas.Bool.Decides.{nat_tests}
use Rattle.std.proofs.lemmas.Fmt.{IsAscii-decimal, decimal_is_IsNumeral}
use Rattle.std.proofs.lemmas.List.Concat.{flat_map-cons}
use Rattle.std.proofs.lemmas.List.Folds.{list_all-append}
use Rattle.std.proofs.lemmas.List.Splits.{join_with_byte-slice_split}
use Rattle.ips_text.specs.Reading.{OneOrMore}
use Rattle.ips_text.specs.Path.{parts, is_dots}
use Rattle.ips_text.specs.Quote.{quoted, quoted_byte, is_plain, fits_name}
use Rattle.ips_fmri.specs.Name.{may_begin, may_go_on, IsComponent, HasStemForm, IsStem, IsPublisher}
use Rattle.ips_fmri.specs.Version.{Parts, numerals, part_text, stamp_text, stamp_part_text, version_text, AreNumbers, IfNumbers, IsVersion}
use Rattle.ips_records.proofs.Joined.{is_name_byte, IsFileName}

-- an ASCII byte
abbrev pub is_low : ℕ → Bool
is_low b = nat_lt b 128

-- the bytes begin with a letter or a digit
abbrev pub BeginsPlain : List ℕ → Type 0
BeginsPlain [] = ⊥
BeginsPlain (b ∷ bytes) = is_ascii_alphanumeric b ≡ true

pub no_dots_from : (b : ℕ) (bytes : List ℕ) → (b == 46) ≡ false → is_dots (b ∷ bytes) ≡ false
no_dots_from b [] e = e
no_dots_from b (c ∷ []) e = rw e refl
no_dots_from b (c ∷ d ∷ bytes) e = refl

plain_no_dot : (b : ℕ) → is_ascii_alphanumeric b ≡ true → (b == 46) ≡ false
plain_no_dot b e = grind (arith, nat_tests)

plain_alone : (b : ℕ) → is_ascii_alphanumeric b ≡ true → quoted_byte b ≡ b ∷ []
plain_alone b e = rw e refl

-- ---- quoted forms

quoted_byte_is : (b : ℕ) → b < 128 → list_all is_name_byte (quoted_byte b) ≡ true
quoted_byte_is b lt = agree_below_at (λ b. list_all is_name_byte (quoted_byte b)) (λ b. true) 128 b refl lt

low_lt : (b : ℕ) → is_low b ≡ true → b < 128
low_lt b e = grind (arith, nat_tests)

quoted_bytes : (bytes : List ℕ) → list_all is_low bytes ≡ true → list_all is_name_byte (quoted bytes) ≡ true
unfolding quoted
quoted_bytes [] e = refl
quoted_bytes (b ∷ bytes) e =
    let h = and_parts (is_low b) (list_all is_low bytes) e in
    ap (list_all is_name_byte) (flat_map-cons quoted_byte b bytes) ∙ list_all-append is_name_byte (quoted_byte b) (quoted bytes) ∙ rw (quoted_byte_is b (low_lt b h.0), quoted_bytes bytes h.1) refl

quoted_first : (b : ℕ) (bytes : List ℕ) → is_ascii_alphanumeric b ≡ true → quoted (b ∷ bytes) ≡ b ∷ quoted bytes
unfolding quoted
quoted_first b bytes e = flat_map-cons quoted_byte b bytes ∙ ap (λ (l : List ℕ). l ++ quoted bytes) (plain_alone b e)

at_most : (n : ℕ) → nat_le n 255 ≡ true → n ≤ 255
at_most n e = grind (arith, nat_tests)

pub quoted_name : (bytes : List ℕ) → list_all is_low bytes ≡ true → BeginsPlain bytes → fits_name bytes ≡ true → IsFileName (quoted bytes)
quoted_name [] low begins fits = absurd begins
quoted_name (b ∷ bytes) low begins fits =
    let first = quoted_first b bytes begins in
    record {
      bytes = quoted_bytes (b ∷ bytes) low;
      some = omega (arith, ap length first);
      few = at_most (length (quoted (b ∷ bytes))) fits;
      no_dots = ap is_dots first ∙ no_dots_from b (quoted bytes) (plain_no_dot b begins);
    }

-- ---- stems and publishers

low_byte : (b : ℕ) → may_go_on false b ≡ true → is_low b ≡ true
low_byte b e = grind (arith, nat_tests)

low_run : (x : List ℕ) → list_all (may_go_on false) x ≡ true → list_all is_low x ≡ true
low_run [] e = refl
low_run (b ∷ x) e = let h = and_parts (may_go_on false b) (list_all (may_go_on false) x) e in rw (low_byte b h.0, low_run x h.1) refl

pub begin_goes_on : (b : ℕ) → may_begin false b ≡ true → may_go_on false b ≡ true
begin_goes_on b e = rw e refl

begin_plain : (b : ℕ) → may_begin false b ≡ true → is_ascii_alphanumeric b ≡ true
begin_plain b e = grind arith

pub low_component : (x : List ℕ) → IsComponent false x → list_all is_low x ≡ true
low_component [] h = absurd h
low_component (b ∷ x) h = rw (low_byte b (begin_goes_on b h.0), low_run x h.1) refl

low_joined : (xs : List (List ℕ)) → OneOrMore (IsComponent false) xs → list_all is_low (join_with_byte 47 xs) ≡ true
low_joined [] h = absurd h
low_joined (x ∷ []) h = low_component x h
low_joined (x ∷ y ∷ xs) h = list_all-append is_low x (47 ∷ join_with_byte 47 (y ∷ xs)) ∙ rw (low_component x h.0, low_joined (y ∷ xs) h.1) refl

begins_component : (x : List ℕ) → IsComponent false x → BeginsPlain x
begins_component [] h = absurd h
begins_component (b ∷ x) h = begin_plain b h.0

begins_onto : (slash : Bool) (b : ℕ) (xs : List (List ℕ)) → OneOrMore (IsComponent false) (cond slash ([] ∷ xs) (onto_first b xs)) → is_ascii_alphanumeric b ≡ true
begins_onto true b [] h = absurd h
begins_onto true b (x ∷ xs) h = absurd h.0
begins_onto false b [] h = begin_plain b h.0
begins_onto false b (x ∷ []) h = begin_plain b h.0
begins_onto false b (x ∷ y ∷ xs) h = begin_plain b h.0.0

begins_stem : (stem : List ℕ) → HasStemForm false stem → BeginsPlain stem
begins_stem [] h = absurd h
begins_stem (b ∷ stem) h = begins_onto (b == 47) b (slice_split (λ b. b == 47) stem) h

pub low_stem : (stem : List ℕ) → IsStem false stem → list_all is_low stem ≡ true
low_stem stem s = ap (list_all is_low) (sym (join_with_byte-slice_split 47 stem)) ∙ low_joined (parts stem) s.form

pub stem_name : (stem : List ℕ) → IsStem false stem → IsFileName (quoted stem)
stem_name stem s = quoted_name stem (low_stem stem s) (begins_stem stem s.form) s.short

name_byte : (b : ℕ) → may_go_on false b ≡ true → is_name_byte b ≡ true
name_byte b e = grind (arith, nat_tests)

name_run : (x : List ℕ) → list_all (may_go_on false) x ≡ true → list_all is_name_byte x ≡ true
name_run [] e = refl
name_run (b ∷ x) e = let h = and_parts (may_go_on false b) (list_all (may_go_on false) x) e in rw (name_byte b h.0, name_run x h.1) refl

byte_long : (b : ℕ) (plain : Bool) → is_plain b ≡ plain → 0 < length (quoted_byte b)
byte_long b true e = rw e (omega arith)
byte_long b false e = rw e (omega arith)

quoted_long : (bytes : List ℕ) → length bytes ≤ length (quoted bytes)
unfolding quoted
quoted_long [] = omega arith
quoted_long (b ∷ bytes) = omega (arith, ap length (flat_map-cons quoted_byte b bytes), length-append (quoted_byte b) (quoted bytes), byte_long b (is_plain b) refl, quoted_long bytes)

pub publisher_name : (publisher : List ℕ) → IsPublisher publisher → IsFileName publisher
publisher_name [] p = absurd p.form
publisher_name (b ∷ publisher) p = record {
  bytes = rw (name_byte b (begin_goes_on b p.form.0), name_run publisher p.form.1) refl;
  some = omega arith;
  few = omega (arith, at_most (length (quoted (b ∷ publisher))) p.short, quoted_long (b ∷ publisher));
  no_dots = no_dots_from b publisher (plain_no_dot b (begin_plain b p.form.0));
}

-- ---- versions

lt_low : (b : ℕ) → b < 128 → is_low b ≡ true
lt_low b lt = grind (arith, nat_tests)

pub low_append : (xs ys : List ℕ) → list_all is_low xs ≡ true → list_all is_low ys ≡ true → list_all is_low (xs ++ ys) ≡ true
low_append xs ys e f = list_all-append is_low xs ys ∙ rw (e, f) refl

low_ascii : (bytes : List ℕ) → IsAscii bytes → list_all is_low bytes ≡ true
low_ascii [] h = refl
low_ascii (b ∷ bytes) h = rw (lt_low b (h 0), low_ascii bytes (λ i. h (suc i))) refl

low_numerals : (ns : List ℕ) → AreNumbers ns → list_all is_low (numerals ns) ≡ true
low_numerals [] h = absurd h
low_numerals (n ∷ []) h = low_ascii (decimal n) (IsAscii-decimal n h)
low_numerals (n ∷ m ∷ ns) h = low_append (decimal n) (46 ∷ numerals (m ∷ ns)) (low_ascii (decimal n) (IsAscii-decimal n h.0)) (low_numerals (m ∷ ns) h.1)

low_part : (mark : ℕ) (ns : List ℕ) → mark < 128 → IfNumbers ns → list_all is_low (part_text mark ns) ≡ true
low_part mark [] lt h = refl
low_part mark (n ∷ ns) lt h = rw (lt_low mark lt, low_numerals (n ∷ ns) h) refl

low_two : (n : ℕ) → (is_low (48 + n % 100 / 10) ≡ true) × (is_low (48 + n % 100 % 10) ≡ true)
low_two n = (lt_low (48 + n % 100 / 10) (omega arith), lt_low (48 + n % 100 % 10) (omega arith))

pub low_stamp : (n : ℕ) → list_all is_low (stamp_text n) ≡ true
low_stamp n =
    let a = low_two (n / 10 ^ 12) in
    let b = low_two (n / 10 ^ 10) in
    let c = low_two (n / 10 ^ 8) in
    let d = low_two (n / 10 ^ 6) in
    let e = low_two (n / 10 ^ 4) in
    let f = low_two (n / 10 ^ 2) in
    let g = low_two n in
    rw (a.0, a.1, b.0, b.1, c.0, c.1, d.0, d.1, e.0, e.1, f.0, f.1, g.0, g.1) refl

low_stamp_part : (stamp : Option ℕ) → list_all is_low (stamp_part_text stamp) ≡ true
low_stamp_part None = refl
low_stamp_part (Some n) = low_stamp n

begins_append : (xs ys : List ℕ) → BeginsPlain xs → BeginsPlain (xs ++ ys)
begins_append [] ys h = absurd h
begins_append (b ∷ xs) ys h = h

digit_plain : (c : ℕ) → digit_value c < 10 → is_ascii_alphanumeric c ≡ true
digit_plain c lt = grind (arith, nat_tests)

begins_digits : (ds : List ℕ) → IsNumeral 10 ds → BeginsPlain ds
begins_digits [] h = absurd (omega (arith, h.0))
begins_digits (c ∷ ds) h = digit_plain c h.1.0

begins_numerals : (ns : List ℕ) → AreNumbers ns → BeginsPlain (numerals ns)
begins_numerals [] h = absurd h
begins_numerals (n ∷ []) h = begins_digits (decimal n) (decimal_is_IsNumeral n h).0
begins_numerals (n ∷ m ∷ ns) h = begins_append (decimal n) (46 ∷ numerals (m ∷ ns)) (begins_digits (decimal n) (decimal_is_IsNumeral n h.0).0)

pub low_version : (v : Parts) → IsVersion v → list_all is_low (version_text v) ≡ true
low_version v s =
    let release = numerals v.release in
    let build = part_text 44 v.build in
    let branch = part_text 45 v.branch in
    let stamp = stamp_part_text v.stamp in
    low_append (release ++ build ++ branch) stamp (low_append (release ++ build) branch (low_append release build (low_numerals v.release s.parts.release) (low_part 44 v.build (omega arith) s.parts.build)) (low_part 45 v.branch (omega arith) s.parts.branch)) (low_stamp_part v.stamp)

-- ASCII bytes are a text
pub low_text : (bytes : List ℕ) → list_all is_low bytes ≡ true → IsUtf8 bytes
low_text bytes e = IsUtf8-from_ascii bytes (IsAscii-from_all bytes (λ k d lt. low_lt _ (AllPass-from_list_all is_low bytes e k d lt)))

pub begins_version : (v : Parts) → IsVersion v → BeginsPlain (version_text v)
begins_version v s =
    let release = numerals v.release in
    let build = part_text 44 v.build in
    let branch = part_text 45 v.branch in
    let stamp = stamp_part_text v.stamp in
    begins_append (release ++ build ++ branch) stamp (begins_append (release ++ build) branch (begins_append release build (begins_numerals v.release s.parts.release)))

pub version_name : (v : Parts) → IsVersion v → IsFileName (quoted (version_text v))
version_name v s = quoted_name (version_text v) (low_version v s) (begins_version v s) s.short
