-- All paths that a request is about.
use Rattle.std.specs.Prelude.{◌≡◌, ℕ, false, ◌||◌, List, map, Option, None, is_some}
use Rattle.std.specs.List.{AllByRecursion}
use Rattle.std.specs.List.Sorted.{IsStrictlySortedBy}
use Rattle.std.specs.Ordering.{nat_cmp}
use Rattle.std.specs.Cmp.Lexicographic.{slice_cmp}
use Rattle.ips_after.specs.Lists.{listed}
use Rattle.ips_after.specs.Request.{Over, Request}
use Rattle.ips_change.specs.declared.survey.row.Row.{Row}
use Rattle.ips_change.specs.survey.Rows.{IsRowOf}
use Rattle.ips_change.specs.survey.Marks.{row_paths}
use Rattle.ips_change.specs.declared.survey.said.Said.{Said}
use Rattle.ips_change.specs.declared.survey.said.Spoken.{Spoken}
use Rattle.ips_change.specs.survey.Said.{said_as}

-- the paths that account files and records name
abbrev pub spoken_paths : List Spoken → List (List ℕ)
spoken_paths spoken = map (λ s. s.path.now.bytes) spoken

-- The rows are at just the paths that were or are wanted, with what was and what is wanted there.
pub record AreRowsOf (r : Request) (rows : List Row) : Type 0 where
  pub covers : (q : List ℕ) → listed (row_paths rows) q ≡ (is_some (r.old.at q) || is_some (r.new.at q))
  pub entries : AllByRecursion (IsRowOf r) rows

-- These are the paths that account files and records name, in that order, with what they say of each; they speak of no other.
pub record AreSpoken (o : Over) (spoken : List Spoken) : Type 0 where
  pub paths : spoken_paths spoken ≡ o.keys
  pub said : map (λ s. s.said) spoken ≡ map (λ p. said_as (o.at p)) o.keys
  pub none_else : (q : List ℕ) → listed o.keys q ≡ false → o.at q ≡ None

-- Just the paths that were or are wanted or that account files and records name, by their bytes, each once: what was and
-- what is wanted there, and what is said of each; no other is spoken of.
pub record IsTable (r : Request) (rows : List Row) (told : List (Option Said)) : Type 0 where
  pub order : IsStrictlySortedBy (slice_cmp nat_cmp) (row_paths rows)
  pub entries : AllByRecursion (IsRowOf r) rows
  pub covers : (q : List ℕ) → listed (row_paths rows) q ≡ (is_some (r.old.at q) || (is_some (r.new.at q) || listed r.over.keys q))
  pub said : told ≡ map (λ p. said_as (r.over.at p)) (row_paths rows)
  pub none_else : (q : List ℕ) → listed (row_paths rows) q ≡ false → r.over.at q ≡ None
