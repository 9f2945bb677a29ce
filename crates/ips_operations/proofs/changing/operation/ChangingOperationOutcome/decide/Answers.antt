use Rattle.std.proofs.Common.{subst}
use Rattle.std.specs.Prelude.{IfOk}
use Rattle.ips_run.specs.Planned.{IfChange, IsPlanned}
use Rattle.ips_operations.specs.changing.Commands.{CommandAt}
use Rattle.ips_operations.specs.changing.Decides.{Decides, asked_of}
use Rattle.ips_operations.specs.changing.Leads.{LeadsWhere}
use Rattle.ips_operations.proofs.changing.operation.ChangingOperationOutcome.decide.Goals as goal

pub returns-clause-decided : goal.returns-clause-decided
returns-clause-decided g c = λ told.
    let tells = g.S.Source.outside.tells c.args.source.now in
    let repository = (g.S.Source.outside.state c.args.source.now).held in
    subst (λ (a : CommandAt). IfOk c.loaded.result (Decides (asked_of a.command a.moment tells repository (g.F.Source.outside.state c.args.folder.now).held))) c.self.view_is (c.loaded.ensures.decided told)

pub returns-clause-planned : goal.returns-clause-planned
returns-clause-planned g c = λ told.
    let tells = g.S.Source.outside.tells c.args.source.now in
    let repository = (g.S.Source.outside.state c.args.source.now).held in
    subst (λ (a : CommandAt). IfOk c.loaded.result (IfChange (IsPlanned (LeadsWhere a.command a.moment) tells repository (g.F.Source.outside.state c.args.folder.now).held))) c.self.view_is (c.loaded.ensures.planned told)
