use Rattle.ips_operations.proofs.creating.deciding.begin.Goals as goal

pub returns-in-Ok-clause-planned : goal.returns-in-Ok-clause-planned
returns-in-Ok-clause-planned g c = λ told tells repository. c.lay.ensures.planned told _ tells repository c.in-Ok.ensures.begun
