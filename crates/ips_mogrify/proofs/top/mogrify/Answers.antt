use Rattle.std.proofs.Common.{inr, Err, ◌∙◌, ap}
use Rattle.ips_mogrify.specs.declared.status.MogrifyOutcome.{MogrifyOutcome}
use Rattle.ips_mogrify.specs.Outcome.{written}
use Rattle.ips_mogrify.proofs.top.mogrify.Goals as goal

pub returns-in-Ok-clause-comes : goal.returns-in-Ok-clause-comes
returns-in-Ok-clause-comes g c = let due = c.in-Ok.ensures.due in inr (written due.0 due.1 c.in-Ok.text due.2 due.3)

pub returns-in-Err-clause-asked : goal.returns-in-Err-clause-asked
returns-in-Err-clause-asked g c = λ failed. c.text_of.ensures.asked (c.in-Err.is ∙ ap (λ (o : MogrifyOutcome). Err o) failed)
