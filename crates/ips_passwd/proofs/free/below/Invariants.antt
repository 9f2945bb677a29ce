use Rattle.std.proofs.Common.{◌≡◌, ℕ, ◌<◌, true, nat_cmp}
use Rattle.std.specs.BTreeSet.{contains}
use Rattle.ips_passwd.proofs.free.below.Given as goal

abbrev pub invariant-loop-k : goal.invariant-loop-k
invariant-loop-k l = (j : ℕ) → j < l.k → contains nat_cmp l.all j ≡ true
