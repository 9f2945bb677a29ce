use Rattle.std.proofs.Common.{◌≡◌, false, take}
use Rattle.ips_request.specs.Stems as lists
use Rattle.ips_shown.specs.Naming.{stems_of}
use Rattle.ips_shown.proofs.naming.held_of.Given as goal

abbrev pub invariant-loop-held : goal.invariant-loop-held
invariant-loop-held l = lists.has l.stem (stems_of (take l.held-index l.packages)) ≡ false
