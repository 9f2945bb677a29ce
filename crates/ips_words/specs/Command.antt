-- What the words ask for, or where they go wrong.
use Rattle.std.specs.Prelude.{◌≡◌, ℕ, ◌-◌, ◌&&◌, Bool, false, List, [], ◌∷◌, length, codes, Ok, Err}
use Rattle.ips_text.specs.declared.refusal.Stop.{Stop}
use Rattle.ips_syntax.specs.declared.table.Why.{Why}
use Rattle.ips_syntax.specs.declared.values.Given.{Given}
use Rattle.ips_syntax.specs.declared.lines.Line.{Line}
use Rattle.ips_words.specs.declared.what.Usage.{Usage}
use Rattle.ips_words.specs.declared.command.Command as declared
use Rattle.ips_syntax.specs.Values.{same}
use Rattle.ips_syntax.specs.Reading.{line_of_words}
use Rattle.ips_words.specs.Meaning.{Means}
use Rattle.ips_words.specs.History.{from_command, history_of}

-- The words are a line, and the command is what it means.
pub record IsCommand (words : List (List ℕ)) (c : declared.Command) : Type 0 where
  pub line : Line
  pub given : List Given
  pub read : line_of_words words ≡ Ok (line, given)
  pub means : Means line given c.what
  pub history : c.history ≡ history_of (from_command words)

-- The usage of a stop: its place, counted from 0, and what is wrong there.
abbrev pub usage_of : List (List ℕ) → Stop Why → Usage
usage_of words s = record { place = length words - s.left; why = s.kind }

-- The words are no line: this is the first word at fault, and what is wrong there.
pub record IsUsage (words : List (List ℕ)) (usage : Usage) : Type 0 where
  pub stop : Stop Why
  pub read : line_of_words words ≡ Err stop
  pub is : usage ≡ usage_of words stop

-- The words begin with a word, `-s` and a word.
abbrev pub is_behind_image : List (List ℕ) → Bool
is_behind_image (image ∷ option ∷ repository ∷ behind) = same option (codes "-s")
is_behind_image words = false

-- The words begin with `-R`, a word, `-s` and a word.
abbrev pub is_led : List (List ℕ) → Bool
is_led [] = false
is_led (option ∷ words) = same option (codes "-R") && is_behind_image words
