use Rattle.std.proofs.Common.{◌<◌, ℕ, Bool, false, List, length, map, take_all, is_none, ◌∙◌, ap, arith}
use Rattle.ips_after.specs.After.{change_settled, is_support}
use Rattle.ips_after.specs.Change.{makes}
use Rattle.ips_change.specs.Told.{naming}
use Rattle.ips_change.specs.declared.survey.row.Row.{Row}
use Rattle.ips_change.specs.survey.Rows.{IsRowOf}
use Rattle.ips_change.specs.survey.Marks.{holds_below, row_paths}
use Rattle.ips_change.proofs.survey.Filling.{said_at}
use Rattle.ips_links.proofs.Linked.{all_here, at_path, at_row, by_rows, one_more, row_more}
use Rattle.ips_emptied.specs.Emptying.{is_candidate}
use Rattle.ips_emptied.proofs.Remaining.{candidate_here, mapped_none}
use Rattle.ips_emptied.proofs.candidates.candidates.Goals as goal

pub loop-i-preserved : goal.loop-i-preserved
loop-i-preserved c =
    let rows = c.args.table.now.rows.items in
    let paths = row_paths rows in
    let i = c.loop-i.i in
    let row = c.index.result.now in
    let p = row.path.now.bytes in
    let said = c.index-in-loop-i.result.now in
    let lt : i < length rows = omega (arith, c.loop-i-test.true, c.len-i-end.ensures, c.args.table.now.rows.ok.0) in
    record {
      long = one_more c.loop-i.candidates.items c.push.new.self.items c.may_empty.result i c.in_ok-push.ensures.items c.loop-i.invariant.long;
      so_far = λ r t good table are supports.
          let made : List ℕ → Bool = λ q. makes (change_settled (naming r) t q) in
          let marks = c.in_ok-below.ensures.told r t good table are in
          let own = all_here (IsRowOf r) rows i row lt c.index.ensures table.entries in
          let here = candidate_here r t paths p _ _ said _ _ own.0 (mapped_none _ row.new ∙ ap is_none own.1)
          (c.index-in-loop-i.ensures ∙ at_row (said_at r.over) c.args.table.now.said.items rows i row said table.said lt c.index.ensures)
          (at_row (is_support (naming r) t) c.args.supports.now rows i row false supports lt c.index.ensures)
          (c.index-in-loop-i-2.ensures ∙ at_row (holds_below made paths) c.in_ok-below.below.items rows i row _ marks lt c.index.ensures) in
          c.in_ok-push.ensures.items ∙ row_more (is_candidate (naming r) t paths) rows i row c.loop-i.candidates.items c.may_empty.result lt c.index.ensures (c.loop-i.invariant.so_far r t good table are supports) (c.may_empty.ensures ∙ here);
    }

pub returns-clause-told : goal.returns-clause-told
returns-clause-told c = λ r t good table are supports.
    let rows = c.args.table.now.rows.items in
    let test = is_candidate (naming r) t (row_paths rows) in
    c.loop-i.invariant.so_far r t good table are supports
    ∙ ap (λ (l : List Row). map (at_path test) l) (take_all c.loop-i.i rows (omega (arith, c.loop-i-test.false, c.len-i-end.ensures, c.args.table.now.rows.ok.0)))
    ∙ by_rows test rows
