use Rattle.std.proofs.Common.{◌<◌, List, length, map, take_all, sym, ap, ◌∙◌, arith}
use Rattle.std.proofs.lemmas.Option.{get_or_from_slice_get}
use Rattle.ips_text.proofs.Lists.{element}
use Rattle.ips_after.specs.Planned.{lays_account}
use Rattle.ips_change.specs.declared.survey.row.Row.{Row}
use Rattle.ips_change.proofs.survey.Filling.{said_at}
use Rattle.ips_links.proofs.Linked.{at_path, at_row, by_rows, one_more, row_more}
use Rattle.ips_emptied.proofs.order.Grouped.{account_here, account_none}
use Rattle.ips_emptied.proofs.order.ordering.account_marks.Goals as goal

pub loop-i-preserved : goal.loop-i-preserved
loop-i-preserved c =
    let rows = c.args.table.now.rows.items in
    let i = c.loop-i.i in
    let lt : i < length rows = omega (arith, c.loop-i-test.true, c.len-i-end.ensures, c.args.table.now.rows.ok.0) in
    let e = element rows i lt in
    let row = e.0 in
    let there = sym (get_or_from_slice_get rows i row row e.1) in
    record {
      long = one_more c.loop-i.marks.items c.push.new.self.items c.is_laid.result i c.in_ok-push.ensures.items c.loop-i.invariant.long;
      so_far = λ r table accounts.
          let said = c.index.result.now in
          let here = account_here r row.path.now.bytes _ said (at_row r.over.is_account c.args.accounts.now rows i row _ accounts lt there) (c.index.ensures ∙ at_row (said_at r.over) c.args.table.now.said.items rows i row said table.said lt there) in
          c.in_ok-push.ensures.items ∙ row_more (lays_account r) rows i row c.loop-i.marks.items c.is_laid.result lt there (c.loop-i.invariant.so_far r table accounts) (c.is_laid.ensures ∙ here);
    }

pub returns-clause-marks : goal.returns-clause-marks
returns-clause-marks c = λ r table accounts.
    let rows = c.args.table.now.rows.items in
    record {
      are = c.loop-i.invariant.so_far r table accounts
          ∙ ap (λ (l : List Row). map (at_path (lays_account r)) l) (take_all c.loop-i.i rows (omega (arith, c.loop-i-test.false, c.len-i-end.ensures, c.args.table.now.rows.ok.0)))
          ∙ by_rows (lays_account r) rows;
      none_else = λ q apart. account_none r rows c.args.table.now.said.items q table apart;
    }
