use Rattle.ips_meaning.proofs.SetPlaces.{set_found, set_nowhere}
use Rattle.ips_meaning.proofs.mediated.set_for.Goals as goal

pub returns-in-Some : goal.returns-in-Some
returns-in-Some c = set_found c.args.mediators.now c.args.places.now c.args.name.now c.in-Some.i.now c.get-in-Some.result c.requires c.in-Some.ensures.value c.get-in-Some.ensures.lookup.1 c.get-in-Some.ensures.lookup.2

pub returns-in-None : goal.returns-in-None
returns-in-None c = set_nowhere c.args.mediators.now c.args.places.now c.args.name.now c.requires c.in-None.ensures.value
