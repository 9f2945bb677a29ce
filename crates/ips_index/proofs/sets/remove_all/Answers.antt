use Rattle.std.proofs.Common.{arith, subst, sym, List, take}
use Rattle.ips_text.proofs.Lists.{take_item}
use Rattle.ips_index.specs.Rows.{IndexedValue}
use Rattle.ips_index.proofs.Growing.{Shrunk, shrunk_none, shrunk_more, shrunk_done}
use Rattle.ips_index.proofs.sets.remove_all.Goals as goal

pub loop-row-init : goal.loop-row-init
loop-row-init c = (shrunk_none c.args.set.now, λ h. h)

pub loop-row-preserved : goal.loop-row-preserved
loop-row-preserved c =
    let rows : List IndexedValue = c.args.rows.now in (
      subst (λ (front : List IndexedValue). Shrunk c.args.set.now.keys front c.remove.new.self) (sym (take_item rows c.loop-row.row-index c.row-item.result c.loop-row-test.true c.row-item.is))
          (shrunk_more c.args.set.now.keys (take c.loop-row.row-index rows) c.row-item.result c.loop-row.set c.remove.new.self c.loop-row.invariant.0 c.remove.ensures.updates),
      λ h. c.remove.ensures.ordered,
    )

pub returns-clause-rows : goal.returns-clause-rows
returns-clause-rows c = shrunk_done c.args.set.now.keys c.args.rows.now c.loop-row.row-index c.loop-row.set (omega arith) c.loop-row.invariant.0

pub returns-clause-order : goal.returns-clause-order
returns-clause-order c = c.loop-row.invariant.1
