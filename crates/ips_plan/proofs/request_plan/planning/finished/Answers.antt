use Rattle.ips_plan.proofs.request_plan.Carried.{in_order}
use Rattle.ips_plan.proofs.request_plan.planning.finished.Goals as goal

pub counts-requires-clause-old : goal.counts-requires-clause-old
counts-requires-clause-old c = in_order c.args.old.now.installed.items c.deref.result.now c.deref.ensures.value c.requires.old.installed.order

pub counts-requires-clause-new : goal.counts-requires-clause-new
counts-requires-clause-new c = in_order c.args.new.now.installed.items c.deref-in-Ok.result.now c.deref-in-Ok.ensures.value c.requires.new.installed.order
