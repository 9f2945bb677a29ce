use Rattle.std.proofs.Common.{◌≡◌, take}
use Rattle.std.specs.List.{flat_map}
use Rattle.ips_load.specs.HeadLines.{origin_in}
use Rattle.ips_load.proofs.heading.origins_of.Given as goal

abbrev pub invariant-loop-line : goal.invariant-loop-line
invariant-loop-line l = l.origins.items ≡ flat_map origin_in (take l.line-index l.lines)
