use Rattle.std.proofs.Common.{◌∙◌, List, ℕ, ap, arith}
use Rattle.std.specs.BTreeMap.{get_by_text}
use Rattle.ips_action.specs.Attrs.{is_same}
use Rattle.ips_meaning.specs.Offers.{first_place}
use Rattle.ips_meaning.proofs.SetPlaces.{places_none, places_more, places_done}
use Rattle.ips_meaning.proofs.mediated.set_places.Goals as goal

pub loop-i-init : goal.loop-i-init
loop-i-init c = places_none c.args.mediators.now c.new-places.result c.new-places.ensures.empty

pub loop-i-preserved : goal.loop-i-preserved
loop-i-preserved c =
    places_more c.args.mediators.now c.loop-i.i c.index-mediators-i.result c.loop-i.places c.put_first.new.places (omega arith) c.index-mediators-i.is c.loop-i.invariant
    (λ q. c.in_ok-put_first.ensures q ∙ ap (λ (n : List ℕ). first_place (get_by_text c.loop-i.places q) (is_same n q) c.loop-i.i) c.as_str.ensures)

pub returns : goal.returns
returns c = places_done c.args.mediators.now c.loop-i.i c.loop-i.places (omega arith) c.loop-i.invariant
