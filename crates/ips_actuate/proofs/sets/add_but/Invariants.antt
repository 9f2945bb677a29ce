use Rattle.std.proofs.Common.{◌≡◌, ℕ, List, length}
use Rattle.ips_actuate.specs.Gathering.{Lacks}
use Rattle.ips_actuate.proofs.Gathered.{HasGrown}
use Rattle.ips_actuate.proofs.sets.add_but.Given as goal

abbrev pub invariant-loop-text : goal.invariant-loop-text
invariant-loop-text l = HasGrown (λ (text other : List ℕ). (text ≡ other) × Lacks l.others other) l.fn.texts l.left l.initial.set l.set

abbrev pub decreases-loop-text : goal.decreases-loop-text
decreases-loop-text l = length l.left
