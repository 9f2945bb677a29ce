use Rattle.std.proofs.Common.{true, map, refl}
use Rattle.std.proofs.lemmas.Result.{IfOk-weaker}
use Rattle.ips_steps.specs.Journal.{IsJournal}
use Rattle.ips_steps.specs.Private.{visible}
use Rattle.ips_steps.specs.Steps.{Stage, all_laid}
use Rattle.ips_steps.specs.View.{step_of}
use Rattle.ips_contents.specs.Contents.{AreSeen, StagedContents}
use Rattle.ips_commit.specs.Staging.{CanStage}
use Rattle.ips_plan.specs.request_plan.Plans.{ComesOfPlan, IsRequestPlan, given_of}
use Rattle.ips_plan.proofs.request_plan.Calls.{plan_as}
use Rattle.ips_plan.specs.requested.Meant.{ComesAt, IsMeant, IsPlanAt}
use Rattle.ips_image_steps.proofs.staged_plans.Moments.{moment_named}
use Rattle.ips_plan.proofs.requested.Meant.{plan_listed, plan_means, plan_stages}
use Rattle.ips_plan.proofs.requested.requested.plan_at.Goals as goal

pub plan_request-requires : goal.plan_request-requires
plan_request-requires g c = record { moment = moment_named c.args.moment c.args.text.now c.requires.text; old = c.requires.request.old; new = c.requires.request.new }

pub returns : goal.returns
returns g c =
    let o = g.F.Source.outside in
    let q = g.S.Source.outside in
    let around = given_of o q c.args.folder.now c.args.source.now c.args.new.now in
    let text = c.args.text.now in
    let old = c.args.old.now in
    let new = c.args.new.now in
    let answer = c.plan_request.result in
    let plans = c.plan_request.ensures in
    let IsIt = IsRequestPlan around text old new c.args.accept in record {
      plans = plan_as o q IsIt (IsPlanAt around c.args.moment old new c.args.accept) (ComesOfPlan around text old new c.args.accept) (ComesAt around c.args.moment old new c.args.accept)
          c.args.folder.now c.plan_request.new.folder c.args.source.now c.plan_request.new.source answer (λ p h. (text, c.requires.text, h)) (λ why comes. (text, c.requires.text, comes)) plans;
      lists = IfOk-weaker answer IsIt (λ p. IsJournal (map step_of p.planned.emitted.steps.items)) (λ p h. (plan_listed around text old new c.args.accept p h).lists) plans.planned;
      seen = IfOk-weaker answer IsIt (λ p. AreSeen p.planned.emitted.staged.items) (λ p h. (plan_listed around text old new c.args.accept p h).seen) plans.planned;
      stages = λ told. IfOk-weaker answer IsIt (λ p. CanStage (map step_of p.planned.emitted.steps.items) p.planned.emitted.staged.items around.image)
          (λ p h. plan_stages c.due_files_fit.ensures around text old new c.args.accept p h told (g.met.F.Source.sane.formed c.args.folder.now told) (c.requires.request.records told) (c.requires.request.shut told)) plans.planned;
      meant = λ told tells. IfOk-weaker answer IsIt
          (λ p. (contents : Stage) → StagedContents true around.repository new.publisher around.image p.planned.emitted.staged.items contents
          → IsMeant c.args.moment old new around.repository around.image (visible (all_laid contents (map step_of p.planned.emitted.steps.items) around.image)))
          (λ p h. plan_means c.due_files_fit.ensures around text old new c.args.accept p h told (g.met.F.Source.sane.formed c.args.folder.now told) (c.requires.request.records told) c.args.moment c.requires.text tells refl) plans.planned;
    }
