use Rattle.std.proofs.Common.{sym, ◌∙◌}
use Rattle.ips_outside.specs.Tearing.{in_set}
use Rattle.ips_rehearse.proofs.Keys.{there_already}
use Rattle.ips_rehearse.proofs.asking.add_once.Goals as goal

pub returns-then-has : goal.returns-then-has
returns-then-has c = λ q. there_already (in_set c.args.paths.now) c.args.path.now q (sym c.has.ensures ∙ c.if-has.true)
