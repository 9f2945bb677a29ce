use Rattle.std.proofs.Common.{◌≡◌, ℕ, ◌||◌, List, take}
use Rattle.ips_request.specs.Stems.{has}
use Rattle.ips_asked.proofs.avoiding.add_each.Given as goal

abbrev pub invariant-loop-stem : goal.invariant-loop-stem
invariant-loop-stem l = (stem : List ℕ) → has stem l.all.keys ≡ (has stem (take l.stem-index l.stems) || has stem l.initial.all.keys)
