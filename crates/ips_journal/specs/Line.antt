-- Lines and fields, cut at a byte.
use Rattle.std.specs.Prelude.{◌≡◌, ℕ, ◌+◌, IsFalse, List, length, take, drop, Option, Some, None}
use Rattle.ips_text.specs.Cut.{has_byte}
use Rattle.ips_journal.specs.Text.{line}

-- These bytes come first in what lies ahead.
abbrev pub ComeFirst : List ℕ → List ℕ → Type 0
ComeFirst bytes ahead = take (length bytes) ahead ≡ bytes

-- What lies ahead begins with a line of so many bytes, which stands at the front of these.
pub record BeginsLine (ahead bytes : List ℕ) (count : ℕ) : Type 0 where
  pub parts : ahead ≡ line (take count bytes) (drop (count + 1) ahead)
  pub one_line : IsFalse (has_byte 10 (take count bytes))

-- The line that was looked for in so many bytes of what lies ahead is the first of these bytes, or none ends there.
abbrev pub IsLineFound : ℕ → List ℕ → List ℕ → Option ℕ → Type 0
IsLineFound room ahead bytes (Some count) = BeginsLine ahead bytes count
IsLineFound room ahead bytes None = IsFalse (has_byte 10 (take room ahead))
