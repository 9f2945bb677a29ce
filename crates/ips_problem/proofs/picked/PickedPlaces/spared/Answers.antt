use Rattle.std.proofs.Common.{None, Some, sym}
use Rattle.ips_depend.specs.Dependency.{mentions}
use Rattle.ips_problem.proofs.Looking.{numbered_at, spared_with, spared_without}
use Rattle.ips_problem.proofs.picked.PickedPlaces.spared.Goals as goal

pub returns-in-Some : goal.returns-in-Some
returns-in-Some c = λ stem at.
    let v = c.args.self.now in
    let number = numbered_at v.stems.now.keys (mentions v.test.now) v.mentioned.now c.args.place stem (Some c.in-Some.number) _ v.numbered (sym c.in-Some.is) at in
    spared_with v.stems.now.keys v.rows.now stem c.in-Some.number c.spared_at.result number c.spared_at.ensures

pub returns-in-None : goal.returns-in-None
returns-in-None c = λ stem at.
    let v = c.args.self.now in
    let number = numbered_at v.stems.now.keys (mentions v.test.now) v.mentioned.now c.args.place stem None _ v.numbered (sym c.in-None.is) at in
    spared_without v.stems.now.keys v.rows.now stem number
