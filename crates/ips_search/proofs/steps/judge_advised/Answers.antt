use Rattle.ips_search.proofs.steps.judge_advised.Goals as goal

pub returns-then-is_failure : goal.returns-then-is_failure
returns-then-is_failure g c = c.is_failure.ensures c.if-is_failure.true
