use Rattle.ips_search.proofs.Keeping.{HasKeptSo}
use Rattle.ips_search.proofs.pruning.renumber.Given as goal

abbrev pub invariant-loop-nogood : goal.invariant-loop-nogood
invariant-loop-nogood l = HasKeptSo l.nogoods l.places.items l.kept.items l.nogood-index
