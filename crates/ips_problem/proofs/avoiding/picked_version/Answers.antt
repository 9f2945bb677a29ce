use Rattle.ips_problem.proofs.Missing.{version_told}
use Rattle.ips_problem.proofs.avoiding.picked_version.Goals as goal

pub returns-in-Some : goal.returns-in-Some
returns-in-Some c =
    version_told (λ v. v.now) c.args.stems.now.keys c.args.rows.now c.args.chosen.now c.args.stem.now c.in-Some.number c.index-rows-number.result c.version_of.result c.requires.rows c.requires.chosen c.in-Some.ensures.within c.in-Some.ensures.number c.index-rows-number.is c.version_of.ensures
