use Rattle.std.proofs.Common.{arith}
use Rattle.ips_conflict.proofs.Places.{none_there, one_more_there, all_there}
use Rattle.ips_conflict.proofs.index.places.Goals as goal

pub loop-i-init : goal.loop-i-init
loop-i-init c = λ j. none_there c.in_ok-places.places.items j c.in_ok-places.ensures.items

pub loop-i-preserved : goal.loop-i-preserved
loop-i-preserved c = λ j. one_more_there c.loop-i.places.items c.push.new.self.items c.loop-i.i j c.in_ok-push.ensures.items (c.loop-i.invariant j)

pub returns : goal.returns
returns c = λ j. all_there c.loop-i.places.items c.loop-i.i c.args.number j (omega arith) (omega arith) (c.loop-i.invariant j)
