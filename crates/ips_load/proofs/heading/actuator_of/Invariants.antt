use Rattle.std.proofs.Common.{◌≡◌, [], take}
use Rattle.std.specs.List.{flat_map}
use Rattle.ips_load.specs.HeadLines.{actuator_in}
use Rattle.ips_load.proofs.heading.actuator_of.Given as goal

abbrev pub invariant-loop-line : goal.invariant-loop-line
invariant-loop-line l = flat_map actuator_in (take l.line-index l.lines) ≡ []
