use Rattle.std.proofs.Common.{◌≡◌, sym, subst}
use Rattle.std.proofs.lemmas.Result.{IfOk-weaker}
use Rattle.ips_due.specs.Due.{Due, HasProperDue, IsDue}
use Rattle.ips_request_due.specs.repairs.Repairing.{repair_due}
use Rattle.ips_request_due.proofs.repairing.repair_due.Goals as goal

pub returns-clause-together : goal.returns-clause-together
returns-clause-together c =
    let lines = c.args.new.now.history.items in
    IfOk-weaker c.of_state.result (λ (made : Due). made ≡ repair_due lines) IsDue (λ made is. subst IsDue (sym is) (c.repairs_hang_together.ensures.due lines)) c.of_state.ensures

pub returns-clause-proper : goal.returns-clause-proper
returns-clause-proper c =
    let lines = c.args.new.now.history.items in
    IfOk-weaker c.of_state.result (λ (made : Due). made ≡ repair_due lines) HasProperDue (λ made is. subst HasProperDue (sym is) (c.repairs_hang_together.ensures.proper lines)) c.of_state.ensures
