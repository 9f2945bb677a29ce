use Rattle.std.proofs.Common.{◌<◌, Bool, List, length, map, take_all, sym, ◌∙◌, ap, subst, arith}
use Rattle.ips_after.specs.After.{is_top}
use Rattle.ips_change.specs.Told.{naming}
use Rattle.ips_change.specs.declared.survey.row.Row.{Row}
use Rattle.ips_change.specs.survey.Rows.{HasLooked, IsRowOf}
use Rattle.ips_change.specs.survey.Marks.{IsMarkOf, row_paths}
use Rattle.ips_links.proofs.Linked.{all_here, at_path, by_rows, one_more, row_more}
use Rattle.ips_salvage.specs.Destroying.{destroys_else, goes_else}
use Rattle.ips_salvage.proofs.falling.going.Goals as goal

pub loop-i-preserved : goal.loop-i-preserved
loop-i-preserved c =
    let rows = c.args.table.now.rows.items in
    let i = c.loop-i.i in
    let row = c.index.result.now in
    let lt : i < length rows = omega (arith, c.loop-i-test.true, c.len-i-end.ensures, c.args.table.now.rows.ok.0) in
    record {
      long = one_more c.loop-i.going.items c.push.new.self.items c.goes.result i c.in_ok-push.ensures.items c.loop-i.invariant.long;
      so_far = λ r t table looked marked.
          let destroyed = subst (λ (l : List Row). IsMarkOf (destroys_else (naming r) t) (row_paths l) c.args.destroyed.now) (sym c.deref.ensures.value) marked in
          let tops = subst (λ (l : List Row). IsMarkOf (is_top (naming r) t) (row_paths l) c.deref-in-loop-i.result.now) (sym c.deref.ensures.value)
          (subst (λ (l : List Bool). IsMarkOf (is_top (naming r) t) (row_paths rows) l) (sym c.deref-in-loop-i.ensures.value) (c.in_ok-tops.ensures.marks r t table looked)) in
          let here = c.goes.ensures r t (all_here (IsRowOf r) rows i row lt c.index.ensures table.entries) (all_here (HasLooked t) rows i row lt c.index.ensures looked) destroyed tops in
          c.in_ok-push.ensures.items ∙ row_more (goes_else (naming r) t) rows i row c.loop-i.going.items c.goes.result lt c.index.ensures (c.loop-i.invariant.so_far r t table looked marked) here;
    }

pub returns-clause-told : goal.returns-clause-told
returns-clause-told c = λ r t table looked marked.
    let rows = c.args.table.now.rows.items in
    c.loop-i.invariant.so_far r t table looked marked
    ∙ ap (λ (l : List Row). map (at_path (goes_else (naming r) t)) l) (take_all c.loop-i.i rows (omega (arith, c.loop-i-test.false, c.len-i-end.ensures, c.args.table.now.rows.ok.0)))
    ∙ by_rows (goes_else (naming r) t) rows
