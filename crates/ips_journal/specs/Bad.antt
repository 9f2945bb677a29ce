-- The first line of a text that isn't of the grammar of journals.
use Rattle.std.specs.Prelude.{◌≡◌, ℕ, zero, suc, ◌+◌, ◌<◌, ◌⊎◌, List, [], ◌∷◌, ◌++◌, length}
use Rattle.ips_steps.specs.Steps.{Step}
use Rattle.ips_steps.specs.Journal.{IsJournal}
use Rattle.ips_journal.specs.Text.{head_line, step_line, end_line, line, headed}

-- The text begins with the first line and those of so many steps, and what follows begins neither with the line of a
-- further step nor with the last line.
pub record HasBadStep (text : List ℕ) (count : ℕ) : Type 0 where
  pub front : List Step
  pub rest : List ℕ
  pub listed : IsJournal front
  pub counted : length front ≡ count
  pub parts : text ≡ headed front rest
  pub no_step : (s : Step) (more : List ℕ) → IsJournal (front ++ s ∷ []) → rest ≡ line (step_line s) more → ⊥
  pub no_end : (more : List ℕ) → rest ≡ line (end_line count) more → ⊥

-- The text is a whole journal of so many steps, less one, and goes on behind its last line.
pub record GoesOn (text : List ℕ) (count : ℕ) : Type 0 where
  pub front : List Step
  pub rest : List ℕ
  pub listed : IsJournal front
  pub counted : length front + 1 ≡ count
  pub parts : text ≡ headed front (line (end_line (length front)) rest)
  pub there : 0 < length rest

-- the number, from 1, of the first line that isn't of the grammar, where nothing that follows makes the text a journal's
abbrev pub IsBadLine : List ℕ → ℕ → Type 0
IsBadLine text zero = ⊥
IsBadLine text (suc zero) = (rest : List ℕ) → text ≡ line head_line rest → ⊥
IsBadLine text (suc (suc count)) = HasBadStep text count ⊎ GoesOn text count
