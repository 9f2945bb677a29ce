-- Why a word isn't taken.
use Rattle.std.specs.Prelude.{◌≡◌, ℕ, ◌≤◌, ◌⊎◌, if◌then◌else◌, List, length, slice_get, Some}
use Rattle.ips_syntax.specs.declared.table.Why.{Why}
use Rattle.ips_syntax.specs.declared.table.Why.TheVariants.{Missing, Unknown, BadValue}
use Rattle.ips_words.specs.declared.what.Usage.{Usage}
use Rattle.ips_send_words.specs.Form.{Word}
use Rattle.ips_send_words.specs.Words.{begins_with_dash}

-- No word stands at the place, and a further one is needed; or one stands there that isn't as it should be, for which there is this cause.
abbrev pub IsWrong : List Word → ℕ → (Word → Type 0) → (Word → Why) → Usage → Type 0
IsWrong words place Fits cause usage = ((length words ≤ place) × (usage.place ≡ length words) × (usage.why ≡ Missing))
    ⊎ ((word : Word) × (slice_get words place ≡ Some word) × (Fits word → ⊥) × (usage.place ≡ place) × (usage.why ≡ cause word))

-- what is wrong with an operand: it begins with `-`, or is a bad value
abbrev pub operand_cause : Word → Why
operand_cause word = if begins_with_dash word then Unknown else BadValue
