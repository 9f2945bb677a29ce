use Rattle.std.proofs.Common.{take}
use Rattle.ips_meaning.specs.Offers.{AreSetPlaces}
use Rattle.ips_meaning.proofs.mediated.set_places.Given as goal

abbrev pub invariant-loop-i : goal.invariant-loop-i
invariant-loop-i l = AreSetPlaces l.mediators (take l.i l.mediators) l.places
