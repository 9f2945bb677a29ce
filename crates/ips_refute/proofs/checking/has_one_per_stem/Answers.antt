use Rattle.std.proofs.Common.{sym, ◌∙◌}
use Rattle.ips_refute.proofs.Checks.{Ascends-one}
use Rattle.ips_refute.proofs.Lines.{ascends_up}
use Rattle.ips_refute.proofs.checking.has_one_per_stem.Goals as goal

pub returns-then-ascend : goal.returns-then-ascend
returns-then-ascend c = (λ t. Ascends-one c.args.set.now (ascends_up c.args.set.now (sym c.ascend.ensures ∙ c.if-ascend.true)), λ one. c.if-ascend.true)
