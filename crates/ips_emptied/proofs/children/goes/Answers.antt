use Rattle.std.proofs.Common.{◌||◌, Bool, sym, ◌∙◌, ap}
use Rattle.std.proofs.lemmas.Bool.{or_left}
use Rattle.ips_after.proofs.Sorted.{sorted_once}
use Rattle.ips_change.specs.survey.Marks.{row_paths}
use Rattle.ips_change.proofs.survey.Placed.{count}
use Rattle.ips_emptied.specs.Emptying.{marked_in}
use Rattle.ips_emptied.proofs.Placed.{marks_are}
use Rattle.ips_emptied.proofs.children.goes.Goals as goal

pub returns-then-is_marked : goal.returns-then-is_marked
returns-then-is_marked c =
    let paths = row_paths c.args.rows.now in
    let replaced = c.args.replaced.now in
    c.if-is_marked.true
    ∙ sym (or_left _ _ (sym (c.is_marked.ensures (marked_in paths replaced) (marks_are paths replaced (c.requires.replaced ∙ sym (count c.args.rows.now)) (sorted_once paths c.requires.order))) ∙ c.if-is_marked.true))

pub returns-else-is_marked : goal.returns-else-is_marked
returns-else-is_marked c =
    let paths = row_paths c.args.rows.now in
    let replaced = c.args.replaced.now in
    let emptied = c.args.emptied.now in
    let once = sorted_once paths c.requires.order in
    let kept = sym (c.is_marked.ensures (marked_in paths replaced) (marks_are paths replaced (c.requires.replaced ∙ sym (count c.args.rows.now)) once)) ∙ c.if-is_marked.false in
    c.is_marked-else-is_marked.ensures (marked_in paths emptied) (marks_are paths emptied (c.requires.emptied ∙ sym (count c.args.rows.now)) once)
    ∙ ap (λ (b : Bool). b || marked_in paths emptied c.args.child.now) (sym kept)
