-- How a spawner in memory keeps what it ran: what each byte of the text is.
use Rattle.std.specs.Prelude.{◌≡◌, ℕ, List, [], ◌∷◌, ◌++◌, map}
use Rattle.std.specs.List.{flat_map}
use Rattle.ips_outside.specs.Running.{Run}
use Rattle.ips_outside.specs.declared.spawner.Mark.{Mark}
use Rattle.ips_outside.specs.declared.spawner.Mark.TheVariants as mark

-- Marks that were read: the runs that have ended, the words behind them that have, and the bytes behind these.
pub record Seen : Type 0 where
  pub runs : List Run
  pub words : List (List ℕ)
  pub word : List ℕ

-- with one mark more
abbrev pub see : Seen → Mark → Seen
see s (mark.Inside byte) = record { runs = s.runs; words = s.words; word = s.word ++ byte ∷ [] }
see s mark.WordEnd = record { runs = s.runs; words = s.words ++ s.word ∷ []; word = [] }
see s (mark.RunEnd status) = record { runs = s.runs ++ record { words = s.words; status = status } ∷ []; words = []; word = [] }

-- with marks, one after another
abbrev pub see_all : Seen → List Mark → Seen
see_all s [] = s
see_all s (m ∷ marks) = see_all (see s m) marks

-- these runs, and nothing behind them
abbrev pub ended : List Run → Seen
ended runs = record { runs = runs; words = []; word = [] }

-- the runs that end in the marks
abbrev pub runs_of : List Mark → List Run
runs_of marks = (see_all (ended []) marks).runs

-- Nothing stands behind the last run.
pub record HasEnded (marks : List Mark) : Type 0 where
  pub words : (see_all (ended []) marks).words ≡ []
  pub word : (see_all (ended []) marks).word ≡ []

-- the marks of a word
abbrev pub word_marks : List ℕ → List Mark
word_marks word = map (λ byte. mark.Inside byte) word ++ mark.WordEnd ∷ []

-- the marks of words
abbrev pub words_marks : List (List ℕ) → List Mark
words_marks words = flat_map word_marks words
