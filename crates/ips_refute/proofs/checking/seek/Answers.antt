use Rattle.std.proofs.Common.{length}
use Rattle.ips_refute.proofs.Checks.{found_behind}
use Rattle.ips_refute.proofs.checking.seek.Goals as goal

pub returns-else-eq-clause-some : goal.returns-else-eq-clause-some
returns-else-eq-clause-some c = found_behind c.find.result (length c.args.set.now) c.args.set.now c.args.pair c.args.more c.find.ensures.some
