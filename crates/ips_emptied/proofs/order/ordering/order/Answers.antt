use Rattle.std.proofs.Common.{◌≡◌, Bool, List, map, ap, sym, subst, ◌∙◌}
use Rattle.ips_after.specs.Planned.{lays_account}
use Rattle.ips_change.specs.declared.survey.row.Row.{Row}
use Rattle.ips_change.specs.survey.Marks.{IsMarkOf, holds_below, row_paths}
use Rattle.ips_change.proofs.survey.Marking.{map_same}
use Rattle.ips_emptied.specs.order.Chosen.{path_in}
use Rattle.ips_emptied.specs.order.Groups.{lays_below}
use Rattle.ips_emptied.proofs.order.Grouped.{below_is, ordered}
use Rattle.ips_emptied.proofs.order.ordering.order.Goals as goal

pub returns-in-Ok-clause-ordered : goal.returns-in-Ok-clause-ordered
returns-in-Ok-clause-ordered c = λ r t good table supports accounts.
    let rows = c.args.table.now.rows.items in
    let said = c.args.table.now.said.items in
    let paths = row_paths rows in
    let mark = subst (λ (l : List Row). IsMarkOf (lays_account r) (row_paths l) c.deref-2.result.now) (sym c.deref.ensures.value)
    (subst (λ (l : List Bool). IsMarkOf (lays_account r) paths l) (sym c.deref-2.ensures.value) (c.in_ok-laid.ensures.marks r table accounts)) in
    let found = subst (λ (l : List Row). c.in_ok-above.above.items ≡ map (holds_below (lays_account r) (row_paths l)) (row_paths l)) c.deref.ensures.value (c.in_ok-above.ensures.below (lays_account r) mark) in
    let above = found ∙ map_same (holds_below (lays_account r) paths) (lays_below r) paths (below_is r t rows said good table) in
    ap (map (path_in paths)) (c.in-Ok.ensures.ordered r t (record { table = table; supports = supports; accounts = accounts; above = c.deref-3.ensures.value ∙ above })) ∙ ordered r t rows said good table
