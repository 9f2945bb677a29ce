use Rattle.ips_strays.proofs.Gathered.{adds_found, adds_unfound}
use Rattle.ips_strays.proofs.marked.add_row.Goals as goal

pub returns-in_ok-add-clause-found : goal.returns-in_ok-add-clause-found
returns-in_ok-add-clause-found g c = λ told.
    let u = (g.F.Source.outside.state c.args.folder.now).held in
    adds_found u c.args.row.now.path.now.bytes c.in_ok-found.field-0 c.in-Some.found c.args.things.now.items c.add.new.things.items c.in-Some.is (c.in_ok-found.ensures.found told) c.in_ok-add.ensures

pub returns-in_default-clause-found : goal.returns-in_default-clause-found
returns-in_default-clause-found g c = λ told.
    let u = (g.F.Source.outside.state c.args.folder.now).held in
    adds_unfound u c.args.row.now.path.now.bytes c.in_ok-found.field-0 c.args.things.now.items c.in_default.is (c.in_ok-found.ensures.found told)
