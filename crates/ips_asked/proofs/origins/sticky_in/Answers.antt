use Rattle.ips_asked.proofs.Places.{sticky_there, sticky_new}
use Rattle.ips_asked.proofs.origins.sticky_in.Goals as goal

pub returns-in-Some : goal.returns-in-Some
returns-in-Some c = sticky_there c.args.name.now c.args.origins.now c.in-Some.place c.index-origins-place.result c.in-Some.ensures

pub returns-in-None : goal.returns-in-None
returns-in-None c = sticky_new c.args.name.now c.args.origins.now c.in-None.ensures
