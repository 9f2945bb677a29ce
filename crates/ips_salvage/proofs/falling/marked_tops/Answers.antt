use Rattle.std.proofs.Common.{◌<◌, List, length, map, take_all, ◌∙◌, ap, arith}
use Rattle.ips_after.specs.After.{is_top}
use Rattle.ips_change.specs.Told.{naming}
use Rattle.ips_change.specs.declared.survey.row.Row.{Row}
use Rattle.ips_change.specs.survey.Rows.{HasLooked, IsRowOf}
use Rattle.ips_links.proofs.Linked.{all_here, at_path, by_rows, one_more, row_more}
use Rattle.ips_salvage.proofs.Salvageable.{top_none}
use Rattle.ips_salvage.proofs.falling.marked_tops.Goals as goal

pub loop-i-preserved : goal.loop-i-preserved
loop-i-preserved c =
    let rows = c.args.table.now.rows.items in
    let i = c.loop-i.i in
    let row = c.index.result.now in
    let lt : i < length rows = omega (arith, c.loop-i-test.true, c.len-i-end.ensures, c.args.table.now.rows.ok.0) in
    record {
      long = one_more c.loop-i.marks.items c.push.new.self.items c.is_top.result i c.in_ok-push.ensures.items c.loop-i.invariant.long;
      so_far = λ r t table looked.
          let own = c.is_top.ensures r t (all_here (IsRowOf r) rows i row lt c.index.ensures table.entries) (all_here (HasLooked t) rows i row lt c.index.ensures looked) in
          c.in_ok-push.ensures.items ∙ row_more (is_top (naming r) t) rows i row c.loop-i.marks.items c.is_top.result lt c.index.ensures (c.loop-i.invariant.so_far r t table looked) own;
    }

pub returns-clause-marks : goal.returns-clause-marks
returns-clause-marks c = λ r t table looked.
    let rows = c.args.table.now.rows.items in
    record {
      are = c.loop-i.invariant.so_far r t table looked
          ∙ ap (λ (l : List Row). map (at_path (is_top (naming r) t)) l) (take_all c.loop-i.i rows (omega (arith, c.loop-i-test.false, c.len-i-end.ensures, c.args.table.now.rows.ok.0)))
          ∙ by_rows (is_top (naming r) t) rows;
      none_else = λ q apart. top_none r t rows c.args.table.now.said.items q table apart;
    }
