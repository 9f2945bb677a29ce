use Rattle.std.proofs.Common.{subst}
use Rattle.ips_operations.specs.fixing.Deciding.{IsDecisionOf}
use Rattle.ips_operations.specs.fixing.Fixes.{Repairing}
use Rattle.ips_operations.proofs.fixing.operation.FixingOperationOutcome.decide.Goals as goal

pub returns-clause-decided : goal.returns-clause-decided
returns-clause-decided g c = λ told.
    let t = (g.F.Source.outside.state c.args.folder.now).held in
    let is = subst (λ (a : Repairing). IsDecisionOf a t c.decided.result) c.self.view_is (c.decided.ensures.decided told) in
    is.decided

pub returns-clause-planned : goal.returns-clause-planned
returns-clause-planned g c = λ told.
    let t = (g.F.Source.outside.state c.args.folder.now).held in
    let is = subst (λ (a : Repairing). IsDecisionOf a t c.decided.result) c.self.view_is (c.decided.ensures.decided told) in
    is.planned (g.S.Source.outside.tells c.args.source.now) (g.S.Source.outside.state c.args.source.now).held
