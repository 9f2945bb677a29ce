-- What was found by lent rows.
use Rattle.std.proofs.Common.{◌≡◌, List, Option, subst}
use Rattle.std.specs.List.{AllByRecursion}
use Rattle.ips_outside.specs.Image.{Image}
use Rattle.ips_after.specs.Planned.{IsProperRequest}
use Rattle.ips_after.specs.Request.{Request}
use Rattle.ips_change.specs.Told.{naming}
use Rattle.ips_change.specs.declared.survey.row.Row.{Row}
use Rattle.ips_change.specs.declared.survey.said.Said.{Said}
use Rattle.ips_change.specs.survey.Marks.{row_paths}
use Rattle.ips_change.specs.survey.Rows.{HasLooked}
use Rattle.ips_change.specs.survey.Tables.{IsTable}
use Rattle.ips_aside.specs.declared.sides.side.Side.{Side}
use Rattle.ips_aside.specs.sides.Sides.{AreSides}
use Rattle.ips_image_steps.specs.Findings.{AreFiles}

-- the files that were found by lent rows
pub files_found : (t : Image) (rows lent : List Row) (said : List (Option Said)) (sides : List Side) → lent ≡ rows
    → ((r : Request) (said : List (Option Said)) → IsProperRequest r → IsTable r lent said → AllByRecursion (HasLooked t) lent → AreSides (naming r) t (row_paths lent) sides)
    → AllByRecursion (HasLooked t) rows → AreFiles t rows said sides
files_found t rows lent said sides same found looked r proper table =
    let all = subst (λ (l : List Row). (r : Request) (said : List (Option Said)) → IsProperRequest r → IsTable r l said → AllByRecursion (HasLooked t) l → AreSides (naming r) t (row_paths l) sides) same found in
    all r said proper table looked
