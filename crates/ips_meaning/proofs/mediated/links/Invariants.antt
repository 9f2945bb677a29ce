use Rattle.std.proofs.Common.{◌≡◌, List, ℕ, take}
use Rattle.ips_meaning.specs.Taken.{links_of}
use Rattle.ips_meaning.specs.Offers.{links_at}
use Rattle.ips_meaning.proofs.mediated.links.Given as goal

abbrev pub invariant-loop-item : goal.invariant-loop-item
invariant-loop-item l = (name : List ℕ) → links_at l.links name ≡ links_of (take l.item-index l.admitted) name
