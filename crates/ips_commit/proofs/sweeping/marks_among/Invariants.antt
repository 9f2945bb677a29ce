use Rattle.std.proofs.Common.{◌≡◌, take}
use Rattle.std.specs.List.{filter}
use Rattle.ips_outside.specs.Children.{path_bytes}
use Rattle.ips_steps.specs.Private.{mark_front, begins}
use Rattle.ips_commit.proofs.sweeping.marks_among.Given as goal

abbrev pub invariant-loop-path : goal.invariant-loop-path
invariant-loop-path l = path_bytes l.marks.items ≡ filter (begins mark_front) (path_bytes (take l.path-index l.paths))
