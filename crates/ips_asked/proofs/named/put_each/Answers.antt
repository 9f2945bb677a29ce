use Rattle.ips_asked.specs.Keyed.{found}
use Rattle.ips_asked.proofs.Latest.{latest_more}
use Rattle.ips_asked.proofs.named.put_each.Goals as goal

pub loop-item-preserved : goal.loop-item-preserved
loop-item-preserved g c = (
  λ name. latest_more g.T.Named.name_of name c.args.items.now c.loop-item.item-index c.item-item.result (found name c.loop-item.by_name.entries) (found name c.put.new.by_name.entries) (found name c.args.by_name.now.entries)
      c.loop-item-test.true c.item-item.is (c.loop-item.invariant.0 name) (c.in_ok-put.ensures.found name),
  c.in_ok-put.ensures.keyed,
)
