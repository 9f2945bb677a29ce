-- Whether a directory is emptied, path by path.
use Rattle.std.specs.Prelude.{◌≡◌, ℕ, Bool, false, cond, not, ◌&&◌, ◌||◌, IsTrue, IsFalse, List, [], ◌∷◌, get_or, map, slice_get, Option, Some, is_none}
use Rattle.ips_text.specs.Ancestry.{is_below, same_path}
use Rattle.ips_outside.specs.Image.{Image}
use Rattle.ips_after.specs.After.{IsFilled, change_settled, is_support, may_empty, stays_in, unstated}
use Rattle.ips_after.specs.Change.{makes, replaces}
use Rattle.ips_after.specs.Request.{IsRequest, Request}
use Rattle.ips_change.specs.Told.{naming}
use Rattle.ips_change.specs.declared.survey.row.Row.{Row}
use Rattle.ips_change.specs.survey.Rows.{IsRowOf}
use Rattle.ips_change.specs.survey.Marks.{IsMarkOf, holds_below, row_paths}
use Rattle.ips_change.specs.declared.survey.said.Said.{Said}
use Rattle.ips_change.specs.survey.Tables.{IsTable}

-- the mark of the row of a path; none is marked that has no row
abbrev pub marked_in : List (List ℕ) → List Bool → List ℕ → Bool
marked_in [] marks q = false
marked_in (p ∷ paths) [] q = false
marked_in (p ∷ paths) (b ∷ marks) q = cond (same_path p q) b (marked_in paths marks q)

-- The answer is right for this directory: yes just where it may be emptied and nothing is left in it but such directories.
pub record IsEmptiedAt (r : Request) (t : Image) (q : List ℕ) (gone : Bool) : Type 0 where
  pub only : IsTrue gone → IsTrue (may_empty r t q)
  pub empty : (x : List ℕ) → IsTrue gone → IsTrue (is_below q x) → IsFalse (stays_in r t x)
  pub full : IsTrue (may_empty r t q) → IsFalse gone → IsFilled r t q

-- a directory was wanted without a stated mode and no longer is, nothing is said of it, it isn't made for what is below, and
-- nothing is made below it
abbrev pub is_candidate : Request → Image → List (List ℕ) → List ℕ → Bool
is_candidate r t paths p = unstated (r.old.at p) && (is_none (r.new.at p) && (is_none (r.over.at p)
    && (not (is_support r t p) && not (holds_below (λ q. makes (change_settled r t q)) paths p))))

-- the child goes: it is removed or replaced, or is itself emptied, as its row's marks say
abbrev pub goes_by : List (List ℕ) → List Bool → List Bool → List ℕ → Bool
goes_by paths replaced emptied q = marked_in paths replaced q || marked_in paths emptied q

-- The answer for the directory of a row, which is a candidate or not, is right in each request of these rows where the marks of the rows below it are.
abbrev pub IsAnswer : Image → List Row → List Bool → List Bool → Row → Bool → Bool → Type 0
IsAnswer t rows replaced emptied row candidate gone = (r : Request) (said : List (Option Said)) → IsRequest r → IsTable r rows said → IsRowOf r row
    → IsMarkOf (λ p. replaces (change_settled (naming r) t p)) (row_paths rows) replaced
    → candidate ≡ is_candidate (naming r) t (row_paths rows) row.path.now.bytes
    → ((k : ℕ) (p : List ℕ) → slice_get (row_paths rows) k ≡ Some p → IsTrue (is_below row.path.now.bytes p) → IsEmptiedAt (naming r) t p (get_or emptied k false))
    → IsEmptiedAt (naming r) t row.path.now.bytes gone

-- The marks are right in each request of these rows.
abbrev pub AreAnswers : Image → List Row → List Bool → List Bool → List Bool → Type 0
AreAnswers t rows candidates replaced emptied = (r : Request) (said : List (Option Said)) → IsRequest r → IsTable r rows said
    → IsMarkOf (λ p. replaces (change_settled (naming r) t p)) (row_paths rows) replaced
    → candidates ≡ map (is_candidate (naming r) t (row_paths rows)) (row_paths rows)
    → (k : ℕ) (p : List ℕ) → slice_get (row_paths rows) k ≡ Some p → IsEmptiedAt (naming r) t p (get_or emptied k false)
