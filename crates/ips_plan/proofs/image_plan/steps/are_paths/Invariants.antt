use Rattle.std.proofs.Common.{take}
use Rattle.std.specs.List.{AllByRecursion}
use Rattle.ips_text.specs.Path.{IsPath}
use Rattle.ips_plan.proofs.image_plan.steps.are_paths.Given as goal

abbrev pub invariant-loop-item : goal.invariant-loop-item
invariant-loop-item l = AllByRecursion (λ s. IsPath s.path.now.bytes) (take l.item-index l.spoken)
