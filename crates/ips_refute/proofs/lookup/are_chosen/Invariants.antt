use Rattle.std.proofs.Common.{◌≡◌, ◌∷◌, length}
use Rattle.ips_refute.specs.Table.{all_chosen}
use Rattle.ips_refute.proofs.lookup.are_chosen.Given as goal

abbrev pub invariant-loop-rest : goal.invariant-loop-rest
invariant-loop-rest l = all_chosen (l.more ∷ l.set) l.last l.rest ≡ all_chosen (l.more ∷ l.set) l.last l.others

abbrev pub decreases-loop-rest : goal.decreases-loop-rest
decreases-loop-rest l = length l.rest
