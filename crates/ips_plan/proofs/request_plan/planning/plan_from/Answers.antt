use Rattle.ips_plan.specs.request_plan.Plans.{NewFail}
use Rattle.ips_plan.proofs.request_plan.Carried.{plans_lent}
use Rattle.ips_plan.proofs.request_plan.Calls.{unmeant_before}
use Rattle.ips_plan.proofs.request_plan.planning.plan_from.Goals as goal

pub returns-in-Ok : goal.returns-in-Ok
returns-in-Ok g c =
    plans_lent g.F.Source.outside g.S.Source.outside c.args.moment.now _ c.args.accept c.args.folder.now c.plan_between.new.folder c.args.source.now c.plan_between.new.source c.plan_between.result c.plan_between.ensures

pub returns-in-Err-Bad : goal.returns-in-Err-Bad
returns-in-Err-Bad g c =
    let is = rw c.in-Err-Bad.field-0-is at c.unmeant.ensures in
    unmeant_before g.F.Source.outside g.S.Source.outside _ _ c.args.folder.now c.args.source.now c.in-Err-Bad.why c.unmeant.result is
    (NewFail c.in-Err-Bad.why _ c.requires.meant (rw c.in-Err-Bad.field-0-is at c.in-Err-Bad.ensures.refused) is)
