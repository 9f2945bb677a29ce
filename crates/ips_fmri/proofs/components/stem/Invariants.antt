use Rattle.std.proofs.Common.{length}
use Rattle.ips_fmri.proofs.Stems.{StemSoFar}
use Rattle.ips_fmri.proofs.components.stem.Given as goal

abbrev pub invariant-loop-after : goal.invariant-loop-after
invariant-loop-after l = StemSoFar l.wild l.bytes l.rest

abbrev pub decreases-loop-after : goal.decreases-loop-after
decreases-loop-after l = length l.rest
