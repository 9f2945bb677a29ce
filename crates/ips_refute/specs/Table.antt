-- What a puzzle that is written out means.
use Rattle.std.specs.Prelude.{ℕ, ◌<◌, ◌==◌, ◌&&◌, ◌||◌, Bool, true, false, nat_le, List, [], ◌∷◌, length, slice_get, slice_index, All, Option, Some, None}
use Rattle.ips_refute.specs.declared.nogoods.Pair.{Pair}
use Rattle.ips_refute.specs.declared.table.Rule.{Rule}
use Rattle.ips_refute.specs.declared.table.Table.{Table}
use Rattle.ips_refute.specs.Meaning.{Meaning}

-- each rule ends at a stem below this number
abbrev pub EndBelow : ℕ → List Rule → Type 0
EndBelow stems rules = All (λ r. r.last.stem < stems) rules

-- the numbers of candidates, by stem
abbrev pub counts_of : Table → List ℕ
counts_of t = t.counts.items

-- the rules, by the number of their test
abbrev pub rules_of : Table → List Rule
rules_of t = t.rules.items

-- the set has the pair
abbrev pub chosen : List Pair → Pair → Bool
chosen [] q = false
chosen (p ∷ set) q = (p.stem == q.stem && p.candidate == q.candidate) || chosen set q

-- the set has all of the pairs, none of which is of a stem beyond the last
abbrev pub all_chosen : List Pair → ℕ → List Pair → Bool
all_chosen set last [] = true
all_chosen set last (q ∷ others) = (nat_le q.stem last && chosen set q) && all_chosen set last others

-- the set has all pairs of the rule
abbrev pub breaks_rule : Rule → List Pair → Bool
breaks_rule r set = chosen set r.last && all_chosen set r.last.stem r.others.items

-- the test of that number is a rule, and the set has all its pairs
abbrev pub breaks_at : Option Rule → List Pair → Bool
breaks_at None set = false
breaks_at (Some r) set = breaks_rule r set

-- the last stem of a rule
abbrev pub last_of : Option Rule → ℕ
last_of None = 0
last_of (Some r) = r.last.stem

-- the puzzle of a table: each stem has its number of candidates, and each rule is a test, broken where all its pairs are chosen
abbrev pub table_meaning : Table → Meaning
table_meaning t = record {
  stems = length (counts_of t);
  candidates = λ s. slice_index (counts_of t) s;
  tests = length (rules_of t);
  last = λ n. last_of (slice_get (rules_of t) n);
  breaks = λ n set. breaks_at (slice_get (rules_of t) n) set;
}
