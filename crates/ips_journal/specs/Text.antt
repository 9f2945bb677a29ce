-- The text of a journal, in its one spelling.
use Rattle.std.specs.Prelude.{ℕ, ◌+◌, ◌/◌, ◌%◌, List, [], ◌∷◌, ◌++◌, length, codes}
use Rattle.std.specs.Fmt.{decimal}
use Rattle.ips_text.specs.Quote.{quoted, shown}
use Rattle.ips_steps.specs.Steps.{Step, Gone, Fresh, Mode, Put, Symlink, Hard}
use Rattle.ips_steps.specs.View.{sort_of}
use Rattle.ips_steps.specs.declared.step.Sort.{Sort}
use Rattle.ips_steps.specs.declared.step.Sort.TheVariants as sort

-- a mode is written as four octal digits
abbrev pub mode_text : ℕ → List ℕ
mode_text m = (48 + m / 512) ∷ (48 + m / 64 % 8) ∷ (48 + m / 8 % 8) ∷ (48 + m % 8) ∷ []

-- the word that the lines of a sort of steps begin with, and the blank behind it
abbrev pub word : Sort → List ℕ
word sort.Gone = codes "gone "
word sort.Fresh = codes "fresh "
word sort.Mode = codes "mode "
word sort.Put = codes "put "
word sort.Link = codes "link "
word sort.Hard = codes "hard "

-- what a step's line says behind its word, with blanks between: numbers in decimal digits, modes, paths as they are shown, and
-- the quoted target of a symbolic link
abbrev pub fields_of : Step → List ℕ
fields_of (Gone p) = shown p
fields_of (Fresh m p) = mode_text m ++ 32 ∷ shown p
fields_of (Mode m p) = mode_text m ++ 32 ∷ shown p
fields_of (Put n m p) = decimal n ++ 32 ∷ (mode_text m ++ 32 ∷ shown p)
fields_of (Symlink p target) = shown p ++ 32 ∷ quoted target
fields_of (Hard p to) = shown p ++ 32 ∷ shown to

-- the line of a step
abbrev pub step_line : Step → List ℕ
step_line s = word (sort_of s) ++ fields_of s

-- the first line
abbrev pub head_line : List ℕ
head_line = codes "journal 1"

-- the last line, which tells how many steps there are
abbrev pub end_line : ℕ → List ℕ
end_line n = codes "end " ++ decimal n

-- a line with its newline, and what follows it
abbrev pub line : List ℕ → List ℕ → List ℕ
line bytes rest = bytes ++ 10 ∷ rest

-- the lines of the steps, and what follows them
abbrev pub step_lines : List Step → List ℕ → List ℕ
step_lines [] rest = rest
step_lines (s ∷ steps) rest = line (step_line s) (step_lines steps rest)

-- the first line, the lines of the steps, and what follows them
abbrev pub headed : List Step → List ℕ → List ℕ
headed steps rest = line head_line (step_lines steps rest)

-- a journal is written as its first line, a line for each step, and its last line
abbrev pub journal_text : List Step → List ℕ
journal_text steps = headed steps (line (end_line (length steps)) [])
