-- What a spawner in memory means.
use Rattle.std.specs.Prelude.{ℕ, ◌+◌, Bool, true, ◌||◌, List, [], ◌∷◌, ◌++◌, length, get_or, nat_lt}
use Rattle.std.specs.List.{flat_map}
use Rattle.ips_outside.specs.Running.{Run, Running}
use Rattle.ips_outside.specs.Tally.{Tally, next_fails}

-- What it ran, the oldest first, with which statuses its calls end, how many bytes it has room for in all, and its calls.
pub record Spawned : Type 0 where
  pub ran : List Run
  pub statuses : List ℕ
  pub room : ℕ
  pub calls : Tally

-- the text of a word: its bytes and a byte 0
abbrev pub word_text : List ℕ → List ℕ
word_text word = word ++ 0 ∷ []

-- the text of words that are run: that of each, and a byte 10
abbrev pub words_text : List (List ℕ) → List ℕ
words_text words = flat_map word_text words ++ 10 ∷ []

-- the text of what was run
abbrev pub ran_text : List Run → List ℕ
ran_text runs = flat_map (λ r. words_text r.words) runs

-- there is no room for the text of these words
abbrev pub has_no_room : Spawned → List (List ℕ) → Bool
has_no_room s words = nat_lt s.room (length (ran_text s.ran) + length (words_text words))

-- the next call with these words fails
abbrev pub run_fails : Spawned → List (List ℕ) → Bool
run_fails s words = next_fails s.calls || has_no_room s words

-- the status of the next call: that of its number in the list, and 0 past its end
abbrev pub next_status : Spawned → ℕ
next_status s = get_or s.statuses s.calls.made 0

-- a spawner in memory tells what it ran
abbrev pub mem_running : Running Spawned
mem_running = record {
  tells = λ s. true;
  ran = λ s. s.ran;
  faults = λ s. s.calls.failed;
}
