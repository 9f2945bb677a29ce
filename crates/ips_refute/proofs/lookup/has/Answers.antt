use Rattle.ips_refute.proofs.Tables.{has_here}
use Rattle.ips_refute.proofs.lookup.has.Goals as goal

pub returns-then-set-place : goal.returns-then-set-place
returns-then-set-place c = has_here c.args.set.now c.place_in_choice-place.result c.args.pair (record { stem = 0; candidate = 0 }) c.requires c.if-place-set.true c.if-set-place.true
