-- Marks of rows, one by one.
use Rattle.std.proofs.Common.{◌≡◌, Bool, List, [], ◌∷◌, map, refl, ap}
use Rattle.ips_outside.specs.Image.{Image}
use Rattle.ips_after.specs.After as after
use Rattle.ips_after.specs.Request.{Request}
use Rattle.ips_change.specs.declared.survey.row.Row.{Row}
use Rattle.ips_change.specs.survey.Marks.{row_paths}

-- at the row's path a directory with a stated mode goes
abbrev pub top_at : Request → Image → Row → Bool
top_at r t row = after.is_top r t row.path.now.bytes

pub all_tops : (r : Request) (t : Image) (rows : List Row) → map (top_at r t) rows ≡ map (after.is_top r t) (row_paths rows)
all_tops r t [] = refl
all_tops r t (row ∷ rows) = ap (λ (l : List Bool). top_at r t row ∷ l) (all_tops r t rows)
