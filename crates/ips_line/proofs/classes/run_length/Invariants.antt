use Rattle.std.proofs.Common.{◌≡◌, true, take}
use Rattle.std.specs.List.{list_all}
use Rattle.ips_line.specs.Classes.{passes}
use Rattle.ips_line.proofs.classes.run_length.Given as goal

abbrev pub invariant-loop-i : goal.invariant-loop-i
invariant-loop-i l = list_all (passes l.class) (take l.i l.bytes) ≡ true
