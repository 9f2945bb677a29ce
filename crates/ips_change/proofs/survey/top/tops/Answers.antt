use Rattle.std.proofs.Common.{List, map, take_all, ◌∙◌, ap, arith}
use Rattle.ips_change.specs.declared.survey.row.Row.{Row}
use Rattle.ips_change.proofs.survey.Topping.{all_tops, top_at}
use Rattle.ips_change.proofs.survey.top.tops.Goals as goal

pub returns : goal.returns
returns c = λ r t of looked.
    c.loop-row.invariant r t of looked
    ∙ ap (λ (l : List Row). map (top_at r t) l) (take_all c.loop-row.row-index c.args.rows.now (omega (arith, c.loop-row-test.false)))
    ∙ all_tops r t c.args.rows.now
