use Rattle.ips_action.specs.Held.{pairs_at}
use Rattle.ips_action.proofs.Gathered.{grouped_attrs}
use Rattle.ips_action.proofs.attrs.Attrs.list.Goals as goal

pub returns-clause-attrs : goal.returns-clause-attrs
returns-clause-attrs c = rw (← c.self.view_is) (grouped_attrs (pairs_at c.self.inside.text c.self.inside.slots.items) c.self.invariant.ascend)
