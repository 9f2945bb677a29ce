use Rattle.ips_change.specs.Told.{naming}
use Rattle.ips_change.specs.survey.Marks.{row_paths}
use Rattle.ips_aside.proofs.sides.Added.{from_none}
use Rattle.ips_aside.proofs.sides.siding.sides.Goals as goal

pub returns-in-Ok-clause-found : goal.returns-in-Ok-clause-found
returns-in-Ok-clause-found g c = λ told r said proper table looked.
    from_none (naming r) (g.S.Source.outside.state c.args.source.now).held (row_paths c.args.rows.now) _ _ c.new-sides.ensures.items (c.in-Ok.ensures.found told r said proper table looked)
