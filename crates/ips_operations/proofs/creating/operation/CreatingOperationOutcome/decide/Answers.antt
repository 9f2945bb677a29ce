use Rattle.std.proofs.Common.{subst}
use Rattle.std.specs.Prelude.{IfOk}
use Rattle.ips_run.specs.Planned.{IfChange, IsPlanned}
use Rattle.ips_operations.specs.creating.Creations.{Creation}
use Rattle.ips_operations.specs.creating.Decides.{makes_of}
use Rattle.ips_operations.proofs.creating.operation.CreatingOperationOutcome.decide.Goals as goal

pub returns-clause-planned : goal.returns-clause-planned
returns-clause-planned g c = λ told.
    let tells = g.S.Source.outside.tells c.args.source.now in
    let repository = (g.S.Source.outside.state c.args.source.now).held in
    subst (λ (a : Creation). IfOk c.decided.result (IfChange (IsPlanned (makes_of a) tells repository (g.F.Source.outside.state c.args.folder.now).held))) c.self.view_is
    (c.decided.ensures.planned told tells repository)
