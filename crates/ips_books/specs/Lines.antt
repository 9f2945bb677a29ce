-- The lines of a text.
use Rattle.std.specs.Prelude.{ℕ, Bool, true, false, ◌==◌, if◌then◌else◌, List, [], ◌∷◌, ◌++◌}
use Rattle.std.specs.List.{flat_map}

-- A line: what stands on it, and whether a newline ends it. Only the last line of a text may lack its newline.
pub record AccountLine : Type 0 where
  pub text : List ℕ
  pub ended : Bool

-- The lines, with a byte before what stands on the first.
abbrev pub onto_line : ℕ → List AccountLine → List AccountLine
onto_line b [] = record { text = b ∷ []; ended = false } ∷ []
onto_line b (line ∷ lines) = record { text = b ∷ line.text; ended = line.ended } ∷ lines

-- The lines of a text.
abbrev pub account_lines : List ℕ → List AccountLine
account_lines [] = []
account_lines (b ∷ bytes) = if b == 10 then record { text = []; ended = true } ∷ account_lines bytes else onto_line b (account_lines bytes)

-- The bytes of a line, its newline among them.
abbrev pub line_bytes : AccountLine → List ℕ
line_bytes line = line.text ++ (if line.ended then 10 ∷ [] else [])

-- The text of lines.
abbrev pub account_text : List AccountLine → List ℕ
account_text lines = flat_map line_bytes lines

-- The line with its newline.
abbrev pub ended : AccountLine → AccountLine
ended line = record { text = line.text; ended = true }

-- The lines, the last one with its newline.
abbrev pub last_ended : List AccountLine → List AccountLine
last_ended [] = []
last_ended (line ∷ []) = ended line ∷ []
last_ended (line ∷ next ∷ lines) = line ∷ last_ended (next ∷ lines)
