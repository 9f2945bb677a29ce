use Rattle.std.proofs.Common.{ℕ, ◌<◌, ◌≢◌, get_or}
use Rattle.ips_refute.specs.declared.nogoods.Pair.{Pair}
use Rattle.ips_refute.proofs.checking.repeats_no_stem.Given as goal

abbrev pub invariant-loop-i : goal.invariant-loop-i
invariant-loop-i l = (i j : ℕ) (d : Pair) → i < j → j < l.i → (get_or l.set i d).stem ≢ (get_or l.set j d).stem
