use Rattle.ips_plan.specs.request_plan.Plans.{OldFail}
use Rattle.ips_plan.proofs.request_plan.Calls.{unmeant_before}
use Rattle.ips_plan.proofs.request_plan.planning.plan_request.Goals as goal

pub returns-in-Err-Bad : goal.returns-in-Err-Bad
returns-in-Err-Bad g c =
    let is = rw c.in-Err-Bad.field-0-is at c.unmeant.ensures in
    unmeant_before g.F.Source.outside g.S.Source.outside _ _ c.args.folder.now c.args.source.now c.in-Err-Bad.why c.unmeant.result is
    (OldFail c.in-Err-Bad.why (rw c.in-Err-Bad.field-0-is at c.in-Err-Bad.ensures.refused) is)
