use Rattle.std.proofs.Common.{take}
use Rattle.ips_meaning.specs.Taken.{AreAdmitted}
use Rattle.ips_delivered.proofs.delivered.admitting.admitted.Given as goal

abbrev pub invariant-loop-pkg : goal.invariant-loop-pkg
invariant-loop-pkg l = AreAdmitted l.settings (take l.pkg-index l.packages) l.admitted.items
