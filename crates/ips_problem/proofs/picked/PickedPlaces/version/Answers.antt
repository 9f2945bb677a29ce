use Rattle.std.proofs.Common.{◌∷◌, None, Some, option_map, sym}
use Rattle.ips_depend.specs.Dependency.{mentions}
use Rattle.ips_problem.proofs.Looking.{numbered_at, picked_with, picked_without}
use Rattle.ips_problem.proofs.picked.PickedPlaces.version.Goals as goal

pub returns-in-Some : goal.returns-in-Some
returns-in-Some c = λ stem at.
    let v = c.args.self.now in
    let number = numbered_at v.stems.now.keys (mentions v.test.now) v.mentioned.now c.args.place stem (Some c.in-Some.number) _ v.numbered (sym c.in-Some.is) at in
    picked_with v.stems.now.keys v.rows.now (v.more ∷ v.set.now) stem c.in-Some.number (option_map (λ v. v.now) c.version_at.result) number c.version_at.ensures

pub returns-in-None : goal.returns-in-None
returns-in-None c = λ stem at.
    let v = c.args.self.now in
    let number = numbered_at v.stems.now.keys (mentions v.test.now) v.mentioned.now c.args.place stem None _ v.numbered (sym c.in-None.is) at in
    picked_without v.stems.now.keys v.rows.now (v.more ∷ v.set.now) stem number
