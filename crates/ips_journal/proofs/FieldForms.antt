-- The fields of lines, and the modes and numbers that they tell.
use Rattle.std.proofs.Common.{◌≡◌, ℕ, ◌+◌, ◌*◌, ◌/◌, ◌%◌, ◌^◌, ◌<◌, ◌≤◌, true, false, List, [], ◌∷◌, length, Option, Some, None, IfSome, inl, sym, ap, ◌∙◌, subst, arith}
use Rattle.std.specs.Char.{digit_value}
use Rattle.std.specs.Fmt.{decimal}
use Rattle.std.specs.Str.Parse.{AllDigits, digits_value}
use Rattle.std.proofs.lemmas.Fmt.{decimal_is_IsNumeral, length-decimal-le}
use Rattle.ips_text.specs.Mode.{IsOctal}
use Rattle.ips_text.specs.Path.{IsPath}
use Rattle.ips_text.specs.Quote.{quoted, shown, AreBytes}
use Rattle.ips_journal.specs.Text.{mode_text}
use Rattle.ips_text.proofs.Bytes.{path_bytes}
use Rattle.ips_text.proofs.Cuts.{IsClear}
use Rattle.ips_journal.proofs.Escapes.{escaped_clear, escaped_long, escaped_apart, escaped_quoted, escaped_shown}

-- ---- modes

octal_digit : (b : ℕ) → digit_value b < 8 → b ≡ 48 + digit_value b
octal_digit b lt = grind arith

four_digits : (a b c d : ℕ) → digit_value a < 8 → digit_value b < 8 → digit_value c < 8 → digit_value d < 8 → a ∷ b ∷ c ∷ d ∷ [] ≡ mode_text (digits_value 8 (a ∷ b ∷ c ∷ d ∷ []))
four_digits a b c d la lb lc ld =
    same a b c d (digit_value a) (digit_value b) (digit_value c) (digit_value d) (octal_digit a la) (octal_digit b lb) (octal_digit c lc) (octal_digit d ld) la lb lc ld
  where
    same : (a b c d w x y z : ℕ) → a ≡ 48 + w → b ≡ 48 + x → c ≡ 48 + y → d ≡ 48 + z → w < 8 → x < 8 → y < 8 → z < 8
        → a ∷ b ∷ c ∷ d ∷ [] ≡ mode_text ((((0 * 8 + w) * 8 + x) * 8 + y) * 8 + z)
    same a b c d w x y z ea eb ec ed lw lx ly lz =
        let first : a ≡ 48 + ((((0 * 8 + w) * 8 + x) * 8 + y) * 8 + z) / 512 = omega arith in
        let second : b ≡ 48 + ((((0 * 8 + w) * 8 + x) * 8 + y) * 8 + z) / 64 % 8 = omega arith in
        let third : c ≡ 48 + ((((0 * 8 + w) * 8 + x) * 8 + y) * 8 + z) / 8 % 8 = omega arith in
        let fourth : d ≡ 48 + ((((0 * 8 + w) * 8 + x) * 8 + y) * 8 + z) % 8 = omega arith in
        cc

-- four octal digits are the text of their value
pub octal_text : (bytes : List ℕ) → length bytes ≡ 4 → AllDigits 8 bytes → bytes ≡ mode_text (digits_value 8 bytes)
octal_text [] e h = absurd (omega arith)
octal_text (a ∷ []) e h = absurd (omega arith)
octal_text (a ∷ b ∷ []) e h = absurd (omega arith)
octal_text (a ∷ b ∷ c ∷ []) e h = absurd (omega arith)
octal_text (a ∷ b ∷ c ∷ d ∷ []) e h = four_digits a b c d h.0 h.1.0 h.1.1.0 h.1.1.1.0
octal_text (a ∷ b ∷ c ∷ d ∷ f ∷ bytes) e h = absurd (omega arith)

pub mode_found : (found : Option ℕ) (bytes : List ℕ) → length bytes ≡ 4 → IfSome found (λ n. IsOctal bytes × (n ≡ digits_value 8 bytes)) → IfSome found (λ n. n < 4096) → IfSome found (λ m. (m < 4096) × (bytes ≡ mode_text m))
mode_found None bytes four octal small = tt
mode_found (Some n) bytes four octal small = (small, octal_text bytes four octal.0.digits ∙ ap mode_text (sym octal.1))

value_of_digit : (d : ℕ) → d < 8 → digit_value (48 + d) < 8
value_of_digit d lt = grind arith

-- the text of a mode is octal digits
pub mode_octal : (m : ℕ) → m < 4096 → IsOctal (mode_text m)
mode_octal m lt = record {
  digits = (value_of_digit (m / 512) (omega arith), (value_of_digit (m / 64 % 8) (omega arith), (value_of_digit (m / 8 % 8) (omega arith), (value_of_digit (m % 8) (omega arith), tt))));
  some = omega arith;
  few = inl (omega arith);
}

-- no two modes have one text
pub mode_apart : (m n : ℕ) → m < 4096 → n < 4096 → mode_text m ≡ mode_text n → m ≡ n
mode_apart m n lm ln e =
    let first : 48 + m / 512 ≡ 48 + n / 512 = cc in
    let second : 48 + m / 64 % 8 ≡ 48 + n / 64 % 8 = cc in
    let third : 48 + m / 8 % 8 ≡ 48 + n / 8 % 8 = cc in
    let fourth : 48 + m % 8 ≡ 48 + n % 8 = cc in
    omega arith

pub mode_clear : (m : ℕ) → IsClear (mode_text m)
mode_clear m = (omega arith, (omega arith, (omega arith, (omega arith, tt))))

-- ---- numbers

digits_clear : (ds : List ℕ) → AllDigits 10 ds → IsClear ds
digits_clear [] h = tt
digits_clear (d ∷ ds) h = (behind_blank d h.0, digits_clear ds h.1)
  where
    behind_blank : (d : ℕ) → digit_value d < 10 → 32 < d
    behind_blank d lt = grind arith

pub number_clear : (n : ℕ) → n < 2 ^ 64 → IsClear (decimal n)
number_clear n lt = digits_clear (decimal n) (decimal_is_IsNumeral n lt).0.1

pub number_long : (n : ℕ) → n < 2 ^ 64 → length (decimal n) ≤ 20
number_long n lt = length-decimal-le 20 n (omega arith) (omega arith) lt

-- ---- paths and targets

pub path_clear : (p : List ℕ) → IsPath p → IsClear (shown p)
path_clear p h = subst IsClear (escaped_shown p) (escaped_clear true p (path_bytes p h))

pub path_apart : (p q : List ℕ) → IsPath p → IsPath q → shown p ≡ shown q → p ≡ q
path_apart p q hp hq e = escaped_apart true p q (path_bytes p hp) (path_bytes q hq) (escaped_shown p ∙ e ∙ sym (escaped_shown q))

pub shown_long : (p : List ℕ) → length (shown p) ≤ 3 * length p
shown_long p = omega (arith, escaped_long true p, ap length (escaped_shown p))

pub target_clear : (t : List ℕ) → AreBytes t → IsClear (quoted t)
target_clear t h = subst IsClear (escaped_quoted t) (escaped_clear false t h)
