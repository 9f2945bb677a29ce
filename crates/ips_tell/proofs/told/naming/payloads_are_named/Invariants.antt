use Rattle.std.proofs.Common.{ℕ, ◌<◌, List, get_or}
use Rattle.ips_journal.specs.declared.staged.Staged.{Staged}
use Rattle.ips_tell.specs.told.Naming.{IsNamed}
use Rattle.ips_tell.proofs.told.naming.payloads_are_named.Given as goal

abbrev pub invariant-loop-i : goal.invariant-loop-i
invariant-loop-i l = (k : ℕ) (d : Staged) → k < l.i → IsNamed (get_or l.staged k d)
