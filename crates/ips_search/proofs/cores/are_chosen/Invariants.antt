use Rattle.std.proofs.Common.{ℕ, ◌<◌, Contains, get_or}
use Rattle.ips_refute.specs.declared.nogoods.Pair.{Pair}
use Rattle.ips_search.proofs.cores.are_chosen.Given as goal

abbrev pub invariant-loop-q : goal.invariant-loop-q
invariant-loop-q l = (k : ℕ) (d : Pair) → k < l.q-index → Contains l.chosen (get_or l.few k d)
