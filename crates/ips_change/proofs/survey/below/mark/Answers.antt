use Rattle.std.proofs.Common.{Bool, List, set, true, ◌∙◌, ap}
use Rattle.ips_after.proofs.Sorted.{sorted_once}
use Rattle.ips_change.specs.survey.Marks.{row_paths}
use Rattle.ips_change.proofs.survey.Marking.{set_at, unset}
use Rattle.ips_change.proofs.survey.below.mark.Goals as goal

pub returns-in-Some : goal.returns-in-Some
returns-in-Some c = λ test is.
    let paths = row_paths c.args.rows.now in
    ap (λ (l : List Bool). set l c.in-Some.i true) is ∙ set_at test c.args.path.now paths c.in-Some.i c.in-Some.ensures.some (sorted_once paths c.requires.order)

pub returns-in_default : goal.returns-in_default
returns-in_default c = λ test is. is ∙ unset test c.args.path.now (row_paths c.args.rows.now) c.in_default.ensures.none
