use Rattle.ips_search.proofs.Walks.{same_set}
use Rattle.ips_search.proofs.steps.first_set.Goals as goal

pub returns : goal.returns
returns c = same_set c.in_ok-set.set.items c.args.pairs.now c.in_ok-set.ensures.items
