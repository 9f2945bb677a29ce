-- The next of rows and of paths that are spoken of.
use Rattle.std.specs.Prelude.{ℕ, Option, Some, None}
use Rattle.std.specs.declared.cmp.Ordering.{Ordering}
use Rattle.std.specs.declared.cmp.Ordering.TheVariants.{Less, Equal, Greater}
use Rattle.std.specs.Ordering.{nat_cmp}
use Rattle.std.specs.Cmp.Lexicographic.{slice_cmp}
use Rattle.ips_change.specs.declared.stands.Stands.TheVariants as stands
use Rattle.ips_change.specs.declared.survey.row.Row.{Row}
use Rattle.ips_change.specs.declared.survey.next.Line.{Line}
use Rattle.ips_change.specs.declared.survey.said.Spoken.{Spoken}

-- a row of whose path nothing is said
abbrev pub unsaid : Row → Line
unsaid row = record { row = row; said = None; origin = Less }

-- a path that neither was nor is wanted, where no rule asks what stands
abbrev pub bare : Spoken → Line
bare spoken = record { row = record { path = spoken.path; old = None; new = None; stands = stands.Unasked }; said = spoken.said; origin = Greater }

-- a row with what is said of its path
abbrev pub both : Row → Spoken → Line
both row spoken = record { row = row; said = spoken.said; origin = Equal }

-- the line of the first of both, by how their paths compare
abbrev pub ranked_line : Ordering → Row → Spoken → Line
ranked_line Less row spoken = unsaid row
ranked_line Equal row spoken = both row spoken
ranked_line Greater row spoken = bare spoken

-- the line of the first of both paths
abbrev pub lesser_line : Row → Spoken → Line
lesser_line row spoken = ranked_line (slice_cmp nat_cmp row.path.now.bytes spoken.path.now.bytes) row spoken

-- the line of the first of the next row and the next path that is spoken of, where there are such
abbrev pub first_line : Option Row → Option Spoken → Option Line
first_line (Some row) (Some spoken) = Some (lesser_line row spoken)
first_line (Some row) None = Some (unsaid row)
first_line None (Some spoken) = Some (bare spoken)
first_line None None = None

-- how many rows a line takes
abbrev pub rows_taken : Ordering → ℕ
rows_taken Less = 1
rows_taken Equal = 1
rows_taken Greater = 0

-- how many paths that are spoken of a line takes
abbrev pub spoken_taken : Ordering → ℕ
spoken_taken Less = 0
spoken_taken Equal = 1
spoken_taken Greater = 1
