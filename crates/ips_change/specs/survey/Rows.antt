-- The paths that are or were wanted, with what stands there.
use Rattle.std.specs.Prelude.{◌≡◌, ℕ, ◌||◌, List, map, is_some}
use Rattle.std.specs.Option.{option_map}
use Rattle.std.specs.List.{AllByRecursion}
use Rattle.std.specs.List.Sorted.{IsStrictlySortedBy}
use Rattle.std.specs.Ordering.{nat_cmp}
use Rattle.std.specs.Cmp.Lexicographic.{slice_cmp}
use Rattle.ips_outside.specs.Image.{Image}
use Rattle.ips_meaning.specs.declared.entry.Entry.{Entry}
use Rattle.ips_after.specs.Lists.{listed}
use Rattle.ips_after.specs.Request.{Request}
use Rattle.ips_change.specs.wanted.Named.{is_payload_of}
use Rattle.ips_change.specs.wanted.Wanted.{want_of, wanted_of}
use Rattle.ips_change.specs.Stands.{stands_of}
use Rattle.ips_change.specs.declared.survey.row.Row.{Row}
use Rattle.ips_change.specs.survey.Pairs.{Pair}

-- the path of a row, with what was and what is wanted there
abbrev pub row_pair : Row → Pair
row_pair row = record { path = row.path.now.bytes; was = option_map (λ x. wanted_of x.now) row.old; wanted = option_map (λ x. wanted_of x.now) row.new }

-- The row knows of what stands in the image what a rule asks.
abbrev pub HasLooked : Image → Row → Type 0
HasLooked t row = row.stands ≡ stands_of is_payload_of (row_pair row).was (row_pair row).wanted (t.look (row_pair row).path)

-- What was and what is wanted at the path is what the lists have there.
abbrev pub HasBoth : List (List ℕ × Entry) → List (List ℕ × Entry) → Pair → Type 0
HasBoth old new pair = (pair.was ≡ (want_of old).at pair.path) × (pair.wanted ≡ (want_of new).at pair.path)

-- Just the paths of both lists, by their bytes, each once, with what was and what is wanted there.
pub record AreRows (old new : List (List ℕ × Entry)) (pairs : List Pair) : Type 0 where
  pub paths : (q : List ℕ) → listed (map (λ pair. pair.path) pairs) q ≡ (is_some ((want_of old).at q) || is_some ((want_of new).at q))
  pub by_bytes : IsStrictlySortedBy (slice_cmp nat_cmp) (map (λ pair. pair.path) pairs)
  pub entries : AllByRecursion (HasBoth old new) pairs

-- The row has what was and what is wanted at its path.
abbrev pub IsRowOf : Request → Row → Type 0
IsRowOf r row = ((row_pair row).was ≡ r.old.at (row_pair row).path) × ((row_pair row).wanted ≡ r.new.at (row_pair row).path)
