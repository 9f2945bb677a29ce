use Rattle.std.proofs.Common.{ap, refl}
use Rattle.ips_outside.proofs.Reading.{reads_as}
use Rattle.ips_plan.specs.request_plan.Plans.{given_of}
use Rattle.ips_plan.specs.declared.request_plan.fault.PlanFault.TheVariants as plan
use Rattle.ips_report.specs.declared.outcome.Outcome.{Outcome}
use Rattle.ips_run.specs.declared.operation.Change.{Change}
use Rattle.ips_run.specs.declared.operation.DecideFault.TheVariants as decide
use Rattle.ips_tell.specs.told.Told.{manner_of}
use Rattle.ips_operations.specs.changing.Refusals.{unplanned_told}
use Rattle.ips_plan.specs.declared.request_plan.planning.Plan.{Plan}
use Rattle.ips_state.specs.State.{recorded}
use Rattle.ips_operations.specs.changing.Decides.{Led, asked_of}
use Rattle.ips_operations.proofs.changing.Decided.{change_decided, change_listed, change_planned, failed_where_told, given_tells, is_told, records_stand, told_failed, unplanned_by}
use Rattle.ips_operations.proofs.changing.Calls.{nothing_changed, unplanned_nothing}
use Rattle.ips_operations.proofs.changing.deciding.led.Goals as goal

pub plan-requires-clause-request : goal.plan-requires-clause-request
plan-requires-clause-request g c = record {
  old = c.requires.loaded.lawful;
  new = c.requires.leads.lawful;
  records = λ tells. records_stand (g.F.Source.outside.state c.args.folder.now).held (recorded c.args.old.now) (g.met.F.Source.sane.formed c.args.folder.now tells) (c.requires.loaded.holds tells);
  shut = c.requires.loaded.shut;
}

pub returns-in-Ok-plan : goal.returns-in-Ok-plan
returns-in-Ok-plan g c =
    let o = g.F.Source.outside in
    let p = g.S.Source.outside in
    let a = asked_of c.args.command.now c.args.moment (p.tells c.args.source.now) (p.state c.args.source.now).held (o.state c.args.folder.now).held in
    let around = given_of o p c.args.folder.now c.args.source.now c.args.new.now in
    let planned = c.in-Ok-plan.plan in
    let publisher = c.in-Ok.publisher in
    let change = c.change_of.result in
    let is = c.change_of.ensures.is in
    let promised = c.in-Ok-plan.ensures in record {
      decided = λ tells.
          let led : Led a = record { old = c.args.old.now; holds = c.requires.loaded.holds tells; new = c.args.new.now; leads = c.requires.leads } in
          change_decided a led around c.accepts-accept.result planned publisher change is c.change_of.ensures.named c.in-Ok.ensures
          (given_tells o p c.args.folder.now c.args.source.now c.args.command.now c.args.moment c.args.new.now tells) c.accepts-accept.ensures promised.plans.planned;
      of_effect = refl;
      says = ap (λ (x : Change Outcome). manner_of x.told) is;
      lists = change_listed planned publisher change is promised.lists promised.seen;
      planned = λ tells.
          let led : Led a = record { old = c.args.old.now; holds = c.requires.loaded.holds tells; new = c.args.new.now; leads = c.requires.leads } in
          change_planned a led planned publisher change is c.in-Ok.ensures (promised.stages tells) (promised.meant tells);
      reads = reads_as o c.args.folder.now c.plan.new.folder _ _ c.plan.ensures.plans.reads (λ failed. cc) (λ failed. cc);
      source = reads_as p c.args.source.now c.plan.new.source _ _ c.plan.ensures.plans.reads_source (λ failed. cc) (λ failed. cc);
    }

pub unplanned-requires : goal.unplanned-requires
unplanned-requires g c =
    is_told Plan (given_of g.F.Source.outside g.S.Source.outside c.args.folder.now c.args.source.now c.args.new.now) c.args.moment c.args.old.now c.args.new.now c.accepts-accept.result c.in-Err.fault
    c.plan_faults_are_told.ensures c.in-Err.ensures.plans.refused

pub returns-in-Err : goal.returns-in-Err
returns-in-Err g c =
    let o = g.F.Source.outside in
    let p = g.S.Source.outside in
    let a = asked_of c.args.command.now c.args.moment (p.tells c.args.source.now) (p.state c.args.source.now).held (o.state c.args.folder.now).held in
    let around = given_of o p c.args.folder.now c.args.source.now c.args.new.now in
    let fault = c.in-Err.fault in
    let answer = c.unplanned.result in
    let told = c.unplanned.ensures.told in
    nothing_changed o p c.args.command.now c.args.moment c.args.folder.now c.plan.new.folder c.args.source.now c.plan.new.source answer (unplanned_nothing fault answer told)
    (λ tells.
    let led : Led a = record { old = c.args.old.now; holds = c.requires.loaded.holds tells; new = c.args.new.now; leads = c.requires.leads } in
    unplanned_by Plan a led around c.accepts-accept.result fault answer told
    (given_tells o p c.args.folder.now c.args.source.now c.args.command.now c.args.moment c.args.new.now tells) c.accepts-accept.ensures c.in-Err.ensures.plans.refused)
    c.unplanned.ensures.says
    (reads_as o c.args.folder.now c.plan.new.folder _ _ c.plan.ensures.plans.reads
    (failed_where_told c.plan.result fault plan.FolderFault c.in-Err.is unplanned_told decide.FolderFault answer told refl)
    (λ failed. told_failed c.plan.result fault plan.FolderFault c.in-Err.is (c.unplanned.ensures.failed_folder failed)))
    (reads_as p c.args.source.now c.plan.new.source _ _ c.plan.ensures.plans.reads_source
    (failed_where_told c.plan.result fault plan.SourceFault c.in-Err.is unplanned_told decide.SourceFault answer told refl)
    (λ failed. told_failed c.plan.result fault plan.SourceFault c.in-Err.is (c.unplanned.ensures.failed_source failed)))
