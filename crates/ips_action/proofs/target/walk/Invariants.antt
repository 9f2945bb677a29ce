use Rattle.std.proofs.Common.{◌≡◌, length}
use Rattle.std.specs.Prelude.{option_map}
use Rattle.ips_text.specs.Path as paths
use Rattle.ips_action.specs.Target as leading
use Rattle.ips_action.proofs.Targets.{parts_left}
use Rattle.ips_action.proofs.target.walk.Given as goal

abbrev pub invariant-loop-left : goal.invariant-loop-left
invariant-loop-left l = leading.walk (parts_left (option_map (λ r. r.now) l.left)) l.at.items ≡ leading.walk (paths.parts l.target) l.initial.at.items

abbrev pub decreases-loop-left : goal.decreases-loop-left
decreases-loop-left l = length (parts_left (option_map (λ r. r.now) l.left))
