use Rattle.std.proofs.Common.{take}
use Rattle.ips_request.specs.Named.{AreMatched}
use Rattle.ips_shown.specs.Naming.{stems_of}
use Rattle.ips_shown.proofs.naming.matched.Given as goal

abbrev pub invariant-loop-held : goal.invariant-loop-held
invariant-loop-held l = AreMatched l.publisher l.pattern (stems_of (take l.held-index l.packages)) l.matched.items
