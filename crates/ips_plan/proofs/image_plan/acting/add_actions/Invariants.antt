use Rattle.std.proofs.Common.{◌≡◌, map, take}
use Rattle.ips_plan.proofs.image_plan.acting.add_actions.Given as goal

abbrev pub invariant-loop-item : goal.invariant-loop-item
invariant-loop-item l = l.actions.items ≡ map (λ p. p.action) (take l.item-index l.admitted)
