use Rattle.std.proofs.Common.{◌≡◌, List, ℕ, Some, false, ◌∙◌, subst}
use Rattle.std.specs.Prelude.{slice_get}
use Rattle.ips_after.specs.Lists.{listed}
use Rattle.ips_change.specs.survey.Marks.{row_paths}
use Rattle.ips_aside.proofs.lost_and_found.Sided.{wanted_here, wanted_none}
use Rattle.ips_aside.proofs.lost_and_found.side.is_wanted.Goals as goal

pub returns-in-Some : goal.returns-in-Some
returns-in-Some c = λ r said table.
    let rows = c.args.rows.now in
    let at = subst (λ (p : List ℕ). slice_get (row_paths rows) c.in-Some.i ≡ Some p) c.bytes.ensures.value c.in-Some.ensures.some in
    c.is_any_wanted.ensures ∙ wanted_here r said rows c.in-Some.i c.index-rows-i.result c.args.path.now.bytes table c.in-Some.ensures.within c.index-rows-i.is at

pub returns-in-None : goal.returns-in-None
returns-in-None c = λ r said table.
    wanted_none r said c.args.rows.now c.args.path.now.bytes table (subst (λ (p : List ℕ). listed (row_paths c.args.rows.now) p ≡ false) c.bytes.ensures.value c.in-None.ensures.none)
