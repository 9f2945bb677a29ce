use Rattle.std.proofs.Common.{take}
use Rattle.ips_meaning.specs.Taken.{Leaves, Stays}
use Rattle.ips_meaning.specs.Offers.{AreChoices}
use Rattle.ips_meaning.proofs.kept.kept.Given as goal

abbrev pub invariant-loop-item : goal.invariant-loop-item
invariant-loop-item l = AreChoices l.mediators l.links l.choices × Leaves (Stays l.mediators l.admitted) (take l.item-index l.admitted) l.kept.items
