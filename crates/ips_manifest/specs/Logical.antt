-- The lines of a manifest's text: its physical lines, and the logical lines that they make up.
use Rattle.std.specs.Prelude.{ℕ, ◌+◌, Bool, true, false, ◌||◌, ◌==◌, if◌then◌else◌, List, [], ◌∷◌, ◌++◌, Option, Some, None}
use Rattle.std.specs.Str.{is_utf8}

-- lines with one byte more at the front of the first
abbrev pub into_first : ℕ → List (List ℕ) → List (List ℕ)
into_first b [] = (b ∷ []) ∷ []
into_first b (line ∷ lines) = (b ∷ line) ∷ lines

-- the physical lines of a text: each ends at a newline, or at the end of the text
abbrev pub physical_lines : List ℕ → List (List ℕ)
physical_lines [] = []
physical_lines (b ∷ bytes) = if b == 10 then [] ∷ physical_lines bytes else into_first b (physical_lines bytes)

-- the last byte of the line is a backslash, so that it goes on with the next line
abbrev pub continues : List ℕ → Bool
continues [] = false
continues (b ∷ []) = b == 92
continues (b ∷ c ∷ line) = continues (c ∷ line)

-- a line without its last byte
abbrev pub without_last : List ℕ → List ℕ
without_last [] = []
without_last (b ∷ []) = []
without_last (b ∷ c ∷ line) = b ∷ without_last (c ∷ line)

-- a logical line: the number of its first physical line, counted from 1, its text, and the number of its first physical line that isn't UTF-8, where there is one
pub record Logical : Type 0 where
  pub number : ℕ
  pub text : List ℕ
  pub unreadable : Option ℕ

-- the number of a physical line that isn't UTF-8, and none of one that is
abbrev pub unreadable_at : ℕ → List ℕ → Option ℕ
unreadable_at number line = if is_utf8 line then None else Some number

-- the first of two numbers, where it is there
abbrev pub or_else : Option ℕ → Option ℕ → Option ℕ
or_else None later = later
or_else (Some number) later = Some number

-- logical lines, of which the first begins with one more physical line; its backslash is dropped, also at the end of the text
abbrev pub continued : ℕ → List ℕ → List Logical → List Logical
continued number line [] = record { number = number; text = without_last line; unreadable = unreadable_at number line } ∷ []
continued number line (next ∷ others) = record { number = number; text = without_last line ++ next.text; unreadable = or_else (unreadable_at number line) next.unreadable } ∷ others

-- the logical lines that physical lines make up, of which the first has this number: one that ends with a backslash goes on with the next
abbrev pub logical_lines : ℕ → List (List ℕ) → List Logical
logical_lines number [] = []
logical_lines number (line ∷ lines) =
    if continues line
    then continued number line (logical_lines (number + 1) lines)
    else record { number = number; text = line; unreadable = unreadable_at number line } ∷ logical_lines (number + 1) lines

-- the logical lines of a manifest's text
abbrev pub lines_of : List ℕ → List Logical
lines_of bytes = logical_lines 1 (physical_lines bytes)

-- the byte is a blank or a tab
abbrev pub is_blank : ℕ → Bool
is_blank b = (b == 32) || (b == 9)

-- the line is skipped: it is empty or blank, or the first character behind its blanks is `#`
abbrev pub is_skipped : List ℕ → Bool
is_skipped [] = true
is_skipped (b ∷ text) = if is_blank b then is_skipped text else b == 35
