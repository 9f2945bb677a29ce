-- Lines that are written, and numbers that are another name's.
use Rattle.std.specs.Prelude.{ℕ, Bool, true, not, ◌&&◌, ◌==◌, if◌then◌else◌, List, [], ◌∷◌, ◌++◌, Some}
use Rattle.std.specs.List.{list_any, join_with_byte}
use Rattle.std.specs.Option.{option_eq}
use Rattle.ips_books.specs.Lines.{AccountLine, last_ended}
use Rattle.ips_books.specs.Accounts.{is_kept, is_of, field, fields_text, number_of}

-- The lines, with the first one that passes changed.
abbrev pub at_first : (AccountLine → Bool) → (AccountLine → AccountLine) → List AccountLine → List AccountLine
at_first passes change [] = []
at_first passes change (line ∷ lines) = if passes line then change line ∷ lines else line ∷ at_first passes change lines

-- The line with other text: its newline stays, or stays away.
abbrev pub rewritten : List ℕ → AccountLine → AccountLine
rewritten text line = record { text = text; ended = line.ended }

-- The lines with one more at the end; a line that lacked its newline gets it.
abbrev pub added : List ℕ → List AccountLine → List AccountLine
added text lines = last_ended lines ++ record { text = text; ended = true } ∷ []

-- The lines with that of a name: its first line is rewritten at its place, or a line is added at the end.
abbrev pub with_line : List ℕ → List ℕ → List AccountLine → List AccountLine
with_line name text lines = if list_any (is_of name) lines then at_first (is_of name) (rewritten text) lines else added text lines

-- The line of a group with these members.
abbrev pub with_members : List (List ℕ) → AccountLine → AccountLine
with_members members line = rewritten (fields_text (field 0 line ∷ field 1 line ∷ field 2 line ∷ join_with_byte 44 members ∷ [])) line

-- ---- numbers that are taken

-- The line has this number.
abbrev pub has_number : ℕ → AccountLine → Bool
has_number id line = not (is_kept line) && option_eq ◌==◌ (number_of line) (Some id)

-- The line has this number, and speaks of another name.
abbrev pub is_of_other : List ℕ → ℕ → AccountLine → Bool
is_of_other name id line = has_number id line && not (is_of name line)

-- The number is that of a line that speaks of another name.
abbrev pub is_number_taken : List AccountLine → List ℕ → ℕ → Bool
is_number_taken lines name id = list_any (is_of_other name id) lines
