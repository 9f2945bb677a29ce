use Rattle.std.proofs.Common.{take}
use Rattle.std.specs.List.{AllByRecursion}
use Rattle.ips_contents.specs.Contents.{IsSeen}
use Rattle.ips_image_steps.proofs.listed.are_seen.Given as goal

abbrev pub invariant-loop-i : goal.invariant-loop-i
invariant-loop-i l = AllByRecursion IsSeen (take l.i l.staged)
