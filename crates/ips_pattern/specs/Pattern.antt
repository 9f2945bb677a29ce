-- Patterns, in the words of the crate `regex`: which texts are patterns, what they match, and what a replacement writes.
use Rattle.std.specs.Prelude.{ℕ, ◌≤◌, Bool, false, List, Option, Some, None, is_some, IsSomeAnd, chars}
use Rattle.regex_syntax.specs.Brackets.{Nested}
use Rattle.regex_syntax.specs.Grammar.{Names, read}
use Rattle.regex_syntax.specs.Verdict.{default_config}
use Rattle.regex.specs.Patterns.{Re, find_str, find_all_str}
use Rattle.regex.specs.Replace.{replaced_by, group_bytes}
use Rattle.regex.specs.Templates.{written_after}

-- what the grammar reads in the text under the default options: a pattern with its depth, and the names of its groups; nothing in a text that is no pattern
abbrev pub pattern_of : List ℕ → Option (Nested Re × Names)
pattern_of text = read default_config (chars text)

-- the text is a pattern that is nested no deeper than 250
abbrev pub IsPattern : List ℕ → Type 0
IsPattern text = IsSomeAnd (pattern_of text) (λ found. found.0.depth ≤ 250)

-- what was read matches somewhere in the value
abbrev pub matches_in : List ℕ → Option (Nested Re × Names) → Bool
matches_in value None = false
matches_in value (Some found) = is_some (find_str found.0.value value 0)

-- the pattern matches somewhere in the value
abbrev pub matches : List ℕ → List ℕ → Bool
matches text value = matches_in value (pattern_of text)

-- a pattern, and the template of what is written in the place of each of its matches
pub record Replacement : Type 0 where
  pub pattern : List ℕ
  pub template : List ℕ

-- the value with what the template writes in the place of each match of what was read
abbrev pub replaced_in : List ℕ → List ℕ → Option (Nested Re × Names) → List ℕ
replaced_in template value None = value
replaced_in template value (Some found) =
    replaced_by (λ m. written_after found.1 (group_bytes value m) template 0) value 0 (find_all_str found.0.value value)

-- the value with what the template writes in the place of each match of the pattern
abbrev pub replaced : Replacement → List ℕ → List ℕ
replaced r value = replaced_in r.template value (pattern_of r.pattern)
