use Rattle.std.proofs.Common.{ℕ, ◌<◌, get_or}
use Rattle.ips_refute.specs.declared.nogoods.Pair.{Pair}
use Rattle.ips_refute.specs.Meaning.{IsOffered}
use Rattle.ips_refute.proofs.checking.are_offered.Given as goal

abbrev pub invariant-loop-q : goal.invariant-loop-q
invariant-loop-q g l = (k : ℕ) (d : Pair) → k < l.q-index → IsOffered (g.P.Puzzle.meaning l.puzzle) (get_or l.set k d)
