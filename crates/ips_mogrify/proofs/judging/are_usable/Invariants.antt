use Rattle.std.proofs.Common.{take}
use Rattle.std.specs.List.{AllByRecursion}
use Rattle.ips_transform.specs.Transformed.{IsUsable}
use Rattle.ips_mogrify.proofs.judging.are_usable.Given as goal

abbrev pub invariant-loop-selector : goal.invariant-loop-selector
invariant-loop-selector l = AllByRecursion IsUsable (take l.selector-index l.selectors)
