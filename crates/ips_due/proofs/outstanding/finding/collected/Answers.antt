use Rattle.ips_due.proofs.outstanding.Answered.{outstanding_from, over_from}
use Rattle.ips_due.proofs.outstanding.finding.collected.Goals as goal

pub returns-clause-found : goal.returns-clause-found
returns-clause-found c = λ bytes due t is. outstanding_from bytes due t c.args.notes.now c.in_ok-collect.field-0.items c.requires is c.in_ok-collect.ensures.keys c.in_ok-collect.ensures.order c.in_ok-collect.ensures.said

pub returns-clause-over : goal.returns-clause-over
returns-clause-over c = λ bytes due t is.
    over_from bytes due t c.in_ok-collect.field-0.items (outstanding_from bytes due t c.args.notes.now c.in_ok-collect.field-0.items c.requires is c.in_ok-collect.ensures.keys c.in_ok-collect.ensures.order c.in_ok-collect.ensures.said)
