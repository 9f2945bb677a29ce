use Rattle.std.proofs.Common.{◌<◌, Bool, List, length, map, take_all, sym, ◌∙◌, ap, subst, arith}
use Rattle.ips_after.specs.After as after
use Rattle.ips_after.specs.Change.{reached}
use Rattle.ips_change.specs.Told.{naming}
use Rattle.ips_change.specs.declared.survey.row.Row.{Row}
use Rattle.ips_change.specs.survey.Marks.{IsMarkOf, row_paths}
use Rattle.ips_links.proofs.Linked.{at_path, by_rows, one_more, row_more}
use Rattle.ips_links.specs.Supporting.{begins_taken}
use Rattle.ips_links.proofs.taking.taken.Goals as goal

pub loop-i-preserved : goal.loop-i-preserved
loop-i-preserved c =
    let rows = c.args.table.now.rows.items in
    let i = c.loop-i.i in
    let row = c.index.result.now in
    let lt : i < length rows = omega (arith, c.loop-i-test.true, c.len-i-end.ensures, c.args.table.now.rows.ok.0) in
    record {
      long = one_more c.loop-i.taken.items c.push.new.self.items c.is_reached.result i c.in_ok-push.ensures.items c.loop-i.invariant.long;
      so_far = λ r t table looked.
          let test = begins_taken (naming r) t in
          let seen = subst (λ (l : List Row). IsMarkOf test (row_paths l) c.deref-in-loop-i.result.now) (sym c.deref.ensures.value)
          (subst (λ (l : List Bool). IsMarkOf test (row_paths rows) l) (sym c.deref-in-loop-i.ensures.value) (c.in_ok-marks.ensures.marks r t table looked)) in
          let here = c.is_reached.ensures test seen ∙ ap (reached test) c.bytes.ensures.value in
          c.in_ok-push.ensures.items ∙ row_more (after.is_taken (naming r) t) rows i row c.loop-i.taken.items c.is_reached.result lt c.index.ensures (c.loop-i.invariant.so_far r t table looked) here;
    }

pub returns-clause-told : goal.returns-clause-told
returns-clause-told c = λ r t table looked.
    let rows = c.args.table.now.rows.items in
    c.loop-i.invariant.so_far r t table looked
    ∙ ap (λ (l : List Row). map (at_path (after.is_taken (naming r) t)) l) (take_all c.loop-i.i rows (omega (arith, c.loop-i-test.false, c.len-i-end.ensures, c.args.table.now.rows.ok.0)))
    ∙ by_rows (after.is_taken (naming r) t) rows
