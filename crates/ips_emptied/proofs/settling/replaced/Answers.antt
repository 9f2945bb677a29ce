use Rattle.std.proofs.Common.{◌<◌, List, length, map, take_all, sym, ◌∙◌, ap, arith}
use Rattle.std.proofs.lemmas.Option.{get_or_from_slice_get}
use Rattle.ips_text.proofs.Lists.{element}
use Rattle.ips_after.specs.After.{change_settled, supported}
use Rattle.ips_after.specs.Change.{replaces}
use Rattle.ips_change.specs.Told.{change_told, naming}
use Rattle.ips_change.specs.declared.survey.row.Row.{Row}
use Rattle.ips_change.proofs.survey.Filling.{said_at}
use Rattle.ips_links.proofs.Linked.{at_path, at_row, by_rows, one_more, row_more, told_here}
use Rattle.ips_emptied.specs.Settling.{replaces_by}
use Rattle.ips_emptied.proofs.Remaining.{replaces_same, settled_bare, settled_here}
use Rattle.ips_emptied.proofs.settling.replaced.Goals as goal

pub loop-i-preserved : goal.loop-i-preserved
loop-i-preserved c =
    let rows = c.args.table.now.rows.items in
    let i = c.loop-i.i in
    let change = c.index-changes-i.result in
    let said = c.index.result.now in
    let lt : i < length rows = omega (arith, c.loop-i-test.true, c.len-i-end.ensures, c.args.table.now.rows.ok.0) in
    let within : i < length c.args.changes.now = omega (arith, lt, c.requires.changes) in
    let e = element rows i lt in
    let row = e.0 in
    let there = sym (get_or_from_slice_get rows i row row e.1) in
    record {
      long = one_more c.loop-i.marks.items c.push.new.self.items c.is_replaced.result i c.in_ok-push.ensures.items c.loop-i.invariant.long;
      so_far = λ r t table are.
          let here = settled_here replaces replaces_by replaces_same r t row.path.now.bytes said (change_told r.bytes change)
          (c.index.ensures ∙ at_row (said_at r.over) c.args.table.now.said.items rows i row said table.said lt there)
          (told_here (change_told r.bytes) (supported (naming r) t) c.args.changes.now rows i change row are within c.index-changes-i.is lt there) in
          c.in_ok-push.ensures.items ∙ row_more (λ q. replaces (change_settled (naming r) t q)) rows i row c.loop-i.marks.items c.is_replaced.result lt there (c.loop-i.invariant.so_far r t table are) (c.is_replaced.ensures r.bytes ∙ here);
    }

pub returns-clause-marks : goal.returns-clause-marks
returns-clause-marks c = λ r t good table are.
    let rows = c.args.table.now.rows.items in
    record {
      are = c.loop-i.invariant.so_far r t table are
          ∙ ap (λ (l : List Row). map (at_path (λ q. replaces (change_settled (naming r) t q))) l) (take_all c.loop-i.i rows (omega (arith, c.loop-i-test.false, c.len-i-end.ensures, c.args.table.now.rows.ok.0)))
          ∙ by_rows (λ q. replaces (change_settled (naming r) t q)) rows;
      none_else = λ q apart. ap replaces (settled_bare r t rows c.args.table.now.said.items q good table apart);
    }
