use Rattle.std.proofs.Common.{◌<◌, List, length, map, take_all, refl, ◌∙◌, ap, arith}
use Rattle.ips_after.specs.After as after
use Rattle.ips_change.specs.Told.{naming}
use Rattle.ips_change.specs.declared.survey.row.Row.{Row}
use Rattle.ips_change.specs.survey.Rows.{HasLooked, IsRowOf}
use Rattle.ips_change.proofs.survey.Filling.{said_at}
use Rattle.ips_links.proofs.Linked.{all_here, at_path, at_row, by_rows, one_more, row_more}
use Rattle.ips_links.specs.Supporting.{begins_taken}
use Rattle.ips_links.proofs.Directories.{begins_here, begins_none}
use Rattle.ips_links.proofs.taking.starts.Goals as goal

pub loop-i-preserved : goal.loop-i-preserved
loop-i-preserved c =
    let rows = c.args.table.now.rows.items in
    let i = c.loop-i.i in
    let row = c.index.result.now in
    let said = c.index-in-loop-i.result.now in
    let lt : i < length rows = omega (arith, c.loop-i-test.true, c.len-i-end.ensures, c.args.table.now.rows.ok.0) in
    record {
      long = one_more c.loop-i.marks.items c.push.new.self.items c.is_start.result i c.in_ok-push.ensures.items c.loop-i.invariant.long;
      so_far = λ r t table looked.
          let p = row.path.now.bytes in
          let own = c.is_start.ensures r t (all_here (IsRowOf r) rows i row lt c.index.ensures table.entries) (all_here (HasLooked t) rows i row lt c.index.ensures looked) in
          let here = begins_here r t p (after.is_top r t p) said refl (c.index-in-loop-i.ensures ∙ at_row (said_at r.over) c.args.table.now.said.items rows i row said table.said lt c.index.ensures) in
          c.in_ok-push.ensures.items ∙ row_more (begins_taken (naming r) t) rows i row c.loop-i.marks.items c.is_start.result lt c.index.ensures (c.loop-i.invariant.so_far r t table looked) (own ∙ here);
    }

pub returns-clause-marks : goal.returns-clause-marks
returns-clause-marks c = λ r t table looked.
    let rows = c.args.table.now.rows.items in
    record {
      are = c.loop-i.invariant.so_far r t table looked
          ∙ ap (λ (l : List Row). map (at_path (begins_taken (naming r) t)) l) (take_all c.loop-i.i rows (omega (arith, c.loop-i-test.false, c.len-i-end.ensures, c.args.table.now.rows.ok.0)))
          ∙ by_rows (begins_taken (naming r) t) rows;
      none_else = λ q apart. begins_none r t rows c.args.table.now.said.items q table apart;
    }
