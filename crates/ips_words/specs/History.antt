-- The words of a command as the history keeps them.
use Rattle.std.specs.Prelude.{ℕ, ◌==◌, Bool, if◌then◌else◌, List, [], ◌∷◌, ◌++◌, drop, codes}
use Rattle.std.specs.List.{flat_map}
use Rattle.ips_text.specs.Quote.{quoted, AreBytes}
use Rattle.ips_syntax.specs.Values.{same}

-- The byte is a blank.
abbrev pub is_blank : ℕ → Bool
is_blank b = b == 32

-- A word, quoted, behind a blank.
abbrev pub blank_and_word : List ℕ → List ℕ
blank_and_word word = 32 ∷ quoted word

-- The quoted words, divided by blanks.
abbrev pub history_of : List (List ℕ) → List ℕ
history_of [] = []
history_of (word ∷ words) = quoted word ++ flat_map blank_and_word words

-- The words from the command on: those behind `-R <image> -s <repository>`, where they begin with `-R`.
abbrev pub from_command : List (List ℕ) → List (List ℕ)
from_command [] = []
from_command (word ∷ words) = if same word (codes "-R") then drop 3 words else word ∷ words

-- Each word is bytes.
abbrev pub AreWords : List (List ℕ) → Type 0
AreWords [] = Unit {0}
AreWords (word ∷ words) = AreBytes word × AreWords words
