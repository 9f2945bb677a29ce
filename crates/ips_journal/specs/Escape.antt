-- Percent-encoded fields of a line.
use Rattle.std.specs.Prelude.{ℕ, ◌/◌, ◌%◌, Bool, true, ◌||◌, ◌&&◌, ◌==◌, if◌then◌else◌, List, [], ◌∷◌, ◌++◌}
use Rattle.std.specs.Fmt.{digit_glyph}
use Rattle.ips_text.specs.Quote.{is_plain}

-- the byte stands for itself; in a shown path `/` does too
abbrev pub is_kept : Bool → ℕ → Bool
is_kept slash b = is_plain b || (slash && (b == 47))

-- a byte that doesn't stand for itself is `%` and its two upper-case hexadecimal digits
abbrev pub escaped_byte : Bool → ℕ → List ℕ
escaped_byte slash b = if is_kept slash b then b ∷ [] else 37 ∷ digit_glyph true (b / 16) ∷ digit_glyph true (b % 16) ∷ []

-- each byte in its turn: the quoted form of bytes, and where `/` stands for itself that of a shown path
abbrev pub escaped : Bool → List ℕ → List ℕ
escaped slash [] = []
escaped slash (b ∷ bytes) = escaped_byte slash b ++ escaped slash bytes
