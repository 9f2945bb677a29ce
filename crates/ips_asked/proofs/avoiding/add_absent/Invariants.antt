use Rattle.std.proofs.Common.{◌≡◌, ℕ, ◌||◌, ◌&&◌, not, List, take}
use Rattle.ips_request.specs.Stems.{has, stems_of}
use Rattle.ips_asked.proofs.avoiding.add_absent.Given as goal

abbrev pub invariant-loop-stem : goal.invariant-loop-stem
invariant-loop-stem l = (stem : List ℕ) → has stem l.all.keys ≡ ((has stem (take l.stem-index l.stems) && not (has stem (stems_of l.there.keys))) || has stem l.initial.all.keys)
