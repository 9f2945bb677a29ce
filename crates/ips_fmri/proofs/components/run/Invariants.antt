use Rattle.std.proofs.Common.{◌≡◌, true, take}
use Rattle.std.specs.List.{list_all}
use Rattle.ips_fmri.specs.Name as name
use Rattle.ips_fmri.proofs.components.run.Given as goal

abbrev pub invariant-loop-i : goal.invariant-loop-i
invariant-loop-i l = list_all (name.may_go_on l.wild) (take l.i l.bytes) ≡ true
