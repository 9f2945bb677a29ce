use Rattle.std.proofs.Common.{◌<◌, false, List, get_or, length, map, take_all, ◌∙◌, ap, arith}
use Rattle.ips_after.specs.After.{has_laid, needs_file}
use Rattle.ips_after.specs.Change.{makes}
use Rattle.ips_change.specs.Told.{change_told, naming}
use Rattle.ips_change.specs.declared.survey.row.Row.{Row}
use Rattle.ips_change.specs.survey.Rows.{HasLooked, IsRowOf}
use Rattle.ips_change.proofs.survey.Filling.{said_at}
use Rattle.ips_links.proofs.Linked.{all_here, at_path, at_row, by_rows, laid_here, laid_none, one_more, row_more}
use Rattle.ips_links.proofs.linking.laid.Goals as goal

pub loop-i-preserved : goal.loop-i-preserved
loop-i-preserved c =
    let rows = c.args.table.now.rows.items in
    let i = c.loop-i.i in
    let row = c.index-in-loop-i.result.now in
    let there = c.index-in-loop-i.ensures in
    let said = c.index.result.now in
    let needed = get_or c.args.needs.now i false in
    let lt : i < length rows = omega (arith, c.loop-i-test.true, c.len-i-end.ensures, c.args.table.now.rows.ok.0) in
    record {
      long = one_more c.loop-i.laid.items c.push.new.self.items c.is_laid.result i c.in_ok-push.ensures.items c.loop-i.invariant.long;
      so_far = λ r t table looked are.
          let own = c.itself.ensures.told r t (all_here (IsRowOf r) rows i row lt there table.entries) (all_here (HasLooked t) rows i row lt there looked) in
          let here = laid_here r t row.path.now.bytes said needed (makes (change_told r.bytes c.itself.result))
          (c.index.ensures ∙ at_row (said_at r.over) c.args.table.now.said.items rows i row said table.said lt there)
          (at_row (needs_file (naming r) t) c.args.needs.now rows i row false are lt there) (ap makes own) in
          c.in_ok-push.ensures.items ∙ row_more (has_laid (naming r) t) rows i row c.loop-i.laid.items c.is_laid.result lt there (c.loop-i.invariant.so_far r t table looked are) (c.is_laid.ensures r.bytes ∙ here);
    }

pub returns-clause-marks : goal.returns-clause-marks
returns-clause-marks c = λ r t good table looked are.
    let rows = c.args.table.now.rows.items in
    record {
      are = c.loop-i.invariant.so_far r t table looked are
          ∙ ap (λ (l : List Row). map (at_path (has_laid (naming r) t)) l) (take_all c.loop-i.i rows (omega (arith, c.loop-i-test.false, c.len-i-end.ensures, c.args.table.now.rows.ok.0)))
          ∙ by_rows (has_laid (naming r) t) rows;
      none_else = λ q apart. laid_none r t rows c.args.table.now.said.items q good table apart;
    }
