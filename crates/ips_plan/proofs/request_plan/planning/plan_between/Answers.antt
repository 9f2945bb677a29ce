use Rattle.ips_plan.proofs.request_plan.Calls.{plans_behind}
use Rattle.ips_plan.proofs.request_plan.planning.plan_between.Goals as goal

pub returns-in-Ok : goal.returns-in-Ok
returns-in-Ok g c =
    plans_behind g.F.Source.outside g.S.Source.outside c.args.moment.now c.args.between c.args.accept c.args.folder.now c.survey.new.folder c.plan_over.new.folder c.args.source.now c.plan_over.new.source _ c.plan_over.result
    c.in-Ok.ensures.reads (λ failed. failed) c.plan_over.ensures
