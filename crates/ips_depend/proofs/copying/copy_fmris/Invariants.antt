use Rattle.std.proofs.Common.{◌≡◌, take}
use Rattle.ips_depend.proofs.copying.copy_fmris.Given as goal

abbrev pub invariant-loop-fmri : goal.invariant-loop-fmri
invariant-loop-fmri l = l.copies.items ≡ take l.fmri-index l.fmris
