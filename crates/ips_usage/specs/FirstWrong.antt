-- Which word of a line is the first at fault.
use Rattle.std.specs.Prelude.{◌≡◌, ◌≢◌, ℕ, List, [], ◌∷◌, ◌++◌, length, Ok}
use Rattle.ips_syntax.specs.declared.table.Why.TheVariants.{Missing}
use Rattle.ips_syntax.specs.declared.values.Given.{Given}
use Rattle.ips_syntax.specs.declared.lines.Line.{Line}
use Rattle.ips_syntax.specs.Reading.{line_of_words}
use Rattle.ips_words.specs.declared.what.Usage.{Usage}

-- Some line begins with these words.
abbrev pub BeginsLine : List (List ℕ) → Type 0
BeginsLine front = (more : List (List ℕ)) × (read : Line × List Given) × (line_of_words (front ++ more) ≡ Ok read)

-- No line begins with these words and the next one; where there is no next one, they are no line, and a word is missing.
abbrev pub StopsLine : List (List ℕ) → List (List ℕ) → Usage → Type 0
StopsLine front [] usage = ((read : Line × List Given) → line_of_words front ≡ Ok read → ⊥) × (usage.why ≡ Missing)
StopsLine front (word ∷ behind) usage = (BeginsLine (front ++ word ∷ []) → ⊥) × (usage.why ≢ Missing)

-- The usage names the first word that no line continues: some line begins with the words before its place, and none with these and the
-- word there.
pub record IsFirstWrong (words : List (List ℕ)) (usage : Usage) : Type 0 where
  pub front : List (List ℕ)
  pub rest : List (List ℕ)
  pub cut : words ≡ front ++ rest
  pub place : usage.place ≡ length front
  pub begins : BeginsLine front
  pub stops : StopsLine front rest usage
