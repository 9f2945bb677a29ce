use Rattle.ips_problem.proofs.picked.candidate.Goals as goal
use Rattle.ips_refute.proofs.Tables.{one_rest}

pub candidate_in-requires : goal.candidate_in-requires
candidate_in-requires c = one_rest c.args.more c.args.set.now c.requires
