-- Where something goes, row by row.
use Rattle.std.proofs.Common.{◌≡◌, ℕ, Bool, true, false, cond, ◌||◌, List, get_or, length, map, ◌<◌, refl, sym, ◌∙◌, ap}
use Rattle.std.specs.List.Sorted.{IsStrictlySortedBy}
use Rattle.std.specs.Ordering.{nat_cmp}
use Rattle.std.specs.Cmp.Lexicographic.{slice_cmp}
use Rattle.std.proofs.lemmas.List.{length-map}
use Rattle.ips_outside.specs.Image.{Image}
use Rattle.ips_after.specs.After.{change_after, change_settled}
use Rattle.ips_after.specs.Change.{Change, Removed, replaces}
use Rattle.ips_after.specs.Lists.{listed}
use Rattle.ips_after.specs.Request.{IsRequest, Request}
use Rattle.ips_after.proofs.Sorted.{sorted_once}
use Rattle.ips_change.specs.Told.{naming}
use Rattle.ips_change.specs.declared.survey.row.Row.{Row}
use Rattle.ips_change.specs.survey.Rows.{row_pair}
use Rattle.ips_change.specs.survey.Marks.{row_paths}
use Rattle.ips_change.specs.declared.survey.said.Said.{Said}
use Rattle.ips_change.specs.survey.Tables.{IsTable}
use Rattle.std.specs.Prelude.{Option}
use Rattle.ips_links.proofs.Linked.{at_row}
use Rattle.ips_emptied.specs.Emptying.{marked_in}
use Rattle.ips_emptied.proofs.Placed.{marks_are, unmarked}
use Rattle.ips_emptied.proofs.Remaining.{settled_bare}

-- what stands goes where the directory is emptied, or else as it is settled
pub goes_either : (e : Bool) (c : Change) → replaces (cond e Removed c) ≡ (e || replaces c)
goes_either true c = refl
goes_either false c = refl

rows_long : (rows : List Row) (marks : List Bool) → length marks ≡ length rows → length marks ≡ length (row_paths rows)
rows_long rows marks long = long ∙ sym (length-map (map row_pair rows) (λ pair. pair.path) ∙ length-map rows row_pair)

-- the mark of a row
pub mark_here : (rows : List Row) (marks : List Bool) (i : ℕ) (row : Row) → length marks ≡ length rows → IsStrictlySortedBy (slice_cmp nat_cmp) (row_paths rows) → i < length rows → row ≡ get_or rows i row
    → get_or marks i false ≡ marked_in (row_paths rows) marks row.path.now.bytes
mark_here rows marks i row long order lt is = at_row (marked_in (row_paths rows) marks) marks rows i row false (marks_are (row_paths rows) marks (rows_long rows marks long) (sorted_once (row_paths rows) order)).are lt is

-- a path without a row stays
pub goes_none : (r : Request) (t : Image) (rows : List Row) (said : List (Option Said)) (marks : List Bool) (q : List ℕ) → IsRequest r → IsTable r rows said → listed (row_paths rows) q ≡ false
    → replaces (change_after (naming r) t (marked_in (row_paths rows) marks) q) ≡ false
goes_none r t rows said marks q good table apart =
    goes_either (marked_in (row_paths rows) marks q) (change_settled (naming r) t q)
    ∙ ap (λ (b : Bool). b || replaces (change_settled (naming r) t q)) (unmarked (row_paths rows) marks q apart)
    ∙ ap replaces (settled_bare r t rows said q good table apart)
