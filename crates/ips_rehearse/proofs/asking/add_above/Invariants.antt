use Rattle.std.proofs.Common.{◌≡◌, ◌||◌, ℕ, List, length}
use Rattle.ips_text.specs.Ancestry.{is_below}
use Rattle.ips_outside.specs.Tearing.{in_set}
use Rattle.ips_rehearse.proofs.asking.add_above.Given as goal

abbrev pub invariant-loop-dir : goal.invariant-loop-dir
invariant-loop-dir l = (q : List ℕ) → (is_below q l.at || in_set l.above q) ≡ (is_below q l.path || in_set l.fn.above q)

abbrev pub decreases-loop-dir : goal.decreases-loop-dir
decreases-loop-dir l = length l.at
