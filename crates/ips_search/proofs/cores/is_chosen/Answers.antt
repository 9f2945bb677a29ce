use Rattle.ips_search.proofs.Shrinking.{chosen_here}
use Rattle.ips_search.proofs.cores.is_chosen.Goals as goal

pub returns-then-place-chosen : goal.returns-then-place-chosen
returns-then-place-chosen c = λ t. chosen_here c.eq.result c.args.chosen.now c.args.pair.stem c.args.pair (record { stem = 0; candidate = 0 }) c.if-place-chosen.true c.eq.ensures t
