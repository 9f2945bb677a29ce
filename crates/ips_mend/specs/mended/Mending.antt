-- What a repair makes of wanted paths, one by one.
use Rattle.std.specs.Prelude.{◌≡◌, ℕ, Bool, not, ◌&&◌, List, [], ◌∷◌}
use Rattle.std.specs.List.{AllByRecursion, list_any}
use Rattle.ips_outside.specs.Image.{Image}
use Rattle.ips_after.specs.After.{leads_to}
use Rattle.ips_after.specs.Change.{makes}
use Rattle.ips_after.specs.Repaired.{Repair, is_lacking, mended}
use Rattle.ips_after.specs.Request.{Want}
use Rattle.ips_change.specs.declared.change.Change.{Change}
use Rattle.ips_change.specs.Fitting.{Fits}
use Rattle.ips_change.specs.declared.survey.row.Row.{Row}
use Rattle.ips_change.specs.survey.Marks.{row_paths}
use Rattle.ips_change.specs.survey.Rows.{row_pair}

-- The row has what is wanted at its path.
abbrev pub IsRowFor : Want → Row → Type 0
IsRowFor want row = (row_pair row).wanted ≡ want.at (row_pair row).path

-- The rows are those of the wanted paths, in their order, with what is wanted at each.
pub record AreRowsFor (want : Want) (rows : List Row) : Type 0 where
  pub paths : row_paths rows ≡ want.keys
  pub entries : AllByRecursion (IsRowFor want) rows

-- A hard link that is laid by a finding at one of these paths leads to the path.
abbrev pub links_among : Repair → Image → List (List ℕ) → List ℕ → Bool
links_among f t paths p = list_any (λ h. leads_to p (f.want.at h) && makes (mended f t h)) paths

-- No file stands where a hard link that is laid leads, and nothing is laid there by a finding.
abbrev pub lacks : Repair → Image → List ℕ → Bool
lacks f t p = not (makes (mended f t p)) && is_lacking f t p

-- Each change fits what is wanted at the path in its place.
abbrev pub AllFitAt : Want → List (List ℕ) → List Change → Type 0
AllFitAt want paths [] = Unit {0}
AllFitAt want [] (c ∷ changes) = Unit {0}
AllFitAt want (p ∷ paths) (c ∷ changes) = Fits (want.at p) c × AllFitAt want paths changes
