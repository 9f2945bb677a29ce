use Rattle.std.proofs.Common.{take}
use Rattle.std.specs.Prelude.{Contains}
use Rattle.ips_index.proofs.Picked.{Picks}
use Rattle.ips_index.proofs.sets.absent.Given as goal

abbrev pub invariant-loop-row : goal.invariant-loop-row
invariant-loop-row l = Picks (λ row. Contains l.set.keys row → ⊥) (take l.row-index l.rows) l.found.items
