use Rattle.ips_problem.proofs.Looking.{at_place}
use Rattle.ips_problem.proofs.picked.candidate_in.Goals as goal

pub returns-then-pair-stem : goal.returns-then-pair-stem
returns-then-pair-stem c = at_place c.args.set.now c.place_of-place.result (record { stem = 0; candidate = 0 }) c.args.stem c.requires c.if-place-set.true c.if-pair-stem.true
