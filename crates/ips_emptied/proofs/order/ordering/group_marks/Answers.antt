use Rattle.std.proofs.Common.{◌<◌, List, length, map, take_all, ap, ◌∙◌, arith}
use Rattle.ips_after.specs.After.{is_support}
use Rattle.ips_change.specs.Told.{naming}
use Rattle.ips_change.specs.declared.survey.row.Row.{Row}
use Rattle.ips_change.specs.survey.Rows.{IsRowOf}
use Rattle.ips_change.proofs.survey.Filling.{said_at}
use Rattle.ips_links.proofs.Linked.{all_here, at_path, at_row, by_rows, one_more, row_more}
use Rattle.ips_emptied.specs.order.Groups.{group_at, lays_below}
use Rattle.ips_emptied.proofs.order.Grouped.{group_here}
use Rattle.ips_emptied.proofs.order.ordering.group_marks.Goals as goal

pub loop-i-preserved : goal.loop-i-preserved
loop-i-preserved c = record {
  long = one_more c.loop-i.marks.items c.push.new.self.items c.is_in.result c.loop-i.i c.in_ok-push.ensures.items c.loop-i.invariant.long;
  so_far = λ r t are.
      let rows = c.args.marked.now.table.now.rows.items in
      let i = c.loop-i.i in
      let row = c.index-row.result.now in
      let lt : i < length rows = omega (arith, c.loop-i-test.true, c.len-i-end.ensures, c.args.marked.now.table.now.rows.ok.0) in
      let there = c.index-row.ensures in
      let own = all_here (IsRowOf r) rows i row lt there are.table.entries in
      let said = c.index.result.now in
      let here = group_here r t c.args.group row.path.now.bytes _ _ said _ _ _ own.0 own.1
      (c.index.ensures ∙ at_row (said_at r.over) c.args.marked.now.table.now.said.items rows i row said are.table.said lt there)
      (at_row (is_support (naming r) t) c.args.marked.now.supports.now rows i row _ are.supports lt there)
      (at_row r.over.is_account c.args.marked.now.accounts.now rows i row _ are.accounts lt there)
      (at_row (lays_below r) c.args.marked.now.above.now rows i row _ are.above lt there) in
      c.in_ok-push.ensures.items ∙ row_more (group_at r t c.args.group) rows i row c.loop-i.marks.items c.is_in.result lt there (c.loop-i.invariant.so_far r t are) (c.is_in.ensures ∙ here);
}

pub returns-clause-marks : goal.returns-clause-marks
returns-clause-marks c = λ r t are.
    let rows = c.args.marked.now.table.now.rows.items in
    c.loop-i.invariant.so_far r t are
    ∙ ap (λ (l : List Row). map (at_path (group_at r t c.args.group)) l) (take_all c.loop-i.i rows (omega (arith, c.loop-i-test.false, c.len-i-end.ensures, c.args.marked.now.table.now.rows.ok.0)))
    ∙ by_rows (group_at r t c.args.group) rows
