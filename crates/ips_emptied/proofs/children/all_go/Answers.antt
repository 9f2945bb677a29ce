use Rattle.std.proofs.Common.{take_all, sym, ◌∙◌, ap, arith}
use Rattle.std.specs.List.{list_all}
use Rattle.std.proofs.lemmas.List.Folds.{list_all-map, list_all_at}
use Rattle.ips_text.specs.Kept.{Kept}
use Rattle.ips_change.specs.survey.Marks.{row_paths}
use Rattle.ips_emptied.specs.Emptying.{goes_by}
use Rattle.ips_emptied.proofs.children.all_go.Goals as goal

pub returns-then-not-goes : goal.returns-then-not-goes
returns-then-not-goes c =
    let goes = goes_by (row_paths c.args.rows.now) c.args.replaced.now c.args.emptied.now in
    let children = c.args.children.now in
    let i = c.loop-i.i in
    let child = c.index-children-i.result in
    let stays = ap (λ (x : Kept). goes x.bytes) (sym c.index-children-i.is) ∙ ap goes (sym c.bytes.ensures.value) ∙ sym c.goes.ensures ∙ c.if-not-goes.true in
    sym (list_all-map goes (λ (p : Kept). p.bytes) children ∙ list_all_at (λ (p : Kept). goes p.bytes) children i child c.loop-i-test.true stays)

pub returns : goal.returns
returns c =
    let goes = goes_by (row_paths c.args.rows.now) c.args.replaced.now c.args.emptied.now in
    let children = c.args.children.now in
    sym (list_all-map goes (λ (p : Kept). p.bytes) children
    ∙ ap (list_all (λ (p : Kept). goes p.bytes)) (sym (take_all c.loop-i.i children (omega (arith, c.loop-i-test.false))))
    ∙ c.loop-i.invariant)
