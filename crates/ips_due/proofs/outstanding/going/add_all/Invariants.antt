use Rattle.std.proofs.Common.{◌≡◌, ◌||◌, ℕ, List, map, take}
use Rattle.ips_after.specs.Lists.{listed}
use Rattle.ips_conflict.specs.Index.{has_path}
use Rattle.ips_due.proofs.outstanding.going.add_all.Given as goal

abbrev pub invariant-loop-i : goal.invariant-loop-i
invariant-loop-i l = (q : List ℕ) → has_path l.going q ≡ (has_path l.initial.going q || listed (map (λ p. p.bytes) (take l.i l.paths)) q)
