use Rattle.std.proofs.Common.{◌≡◌, false, take}
use Rattle.ips_request.specs.Stems as lists
use Rattle.ips_shown.proofs.naming.has.Given as goal

abbrev pub invariant-loop-other : goal.invariant-loop-other
invariant-loop-other l = lists.has l.stem (take l.other-index l.stems) ≡ false
