use Rattle.std.proofs.Common.{map, true, sym, subst}
use Rattle.std.proofs.lemmas.Result.{IfOk-weaker}
use Rattle.ips_outside.specs.Image.{Image}
use Rattle.ips_steps.specs.Private.{visible}
use Rattle.ips_steps.specs.Steps.{Stage, all_laid}
use Rattle.ips_steps.specs.View.{step_of}
use Rattle.ips_contents.specs.Contents.{StagedContents}
use Rattle.ips_commit.specs.Staging.{CanStage}
use Rattle.ips_load.proofs.Answered.{ok_both}
use Rattle.ips_moment.specs.Moment.{IsMomentText}
use Rattle.ips_change.specs.wanted.Named.{is_payload_of}
use Rattle.ips_image_steps.specs.Answers.{CanBeListed}
use Rattle.ips_repair.specs.Meant.{IsRepairedImage}
use Rattle.ips_repair.specs.Repairing.{AreStepsToRepair}
use Rattle.ips_repair.proofs.Seen.{can_stage, image_seen}
use Rattle.ips_repair.proofs.repairing.repair.Goals as goal

pub returns-in-Ok-clause-stages : goal.returns-in-Ok-clause-stages
returns-in-Ok-clause-stages g c = λ told.
    let h = (g.F.Source.outside.state c.args.folder.now).held in
    let text = c.as_str.result.now in
    let want = c.args.want.now in
    let history = c.args.new.now.history.items in
    ok_both c.repair_at.result CanBeListed (AreStepsToRepair text history want h) (λ e. CanStage (map step_of e.steps.items) e.staged.items h)
    (λ e lists are. can_stage text history want h e are (c.repairs_are_lawful.ensures.repair _ _ _ want c.requires.meant (λ p. p) is_payload_of history h are.over (are.says (λ p. p)))
    (g.met.F.Source.sane.formed c.args.folder.now told) lists (c.requires.shut told)) c.repair_at.ensures.plans.lists (c.repair_at.ensures.plans.repaired told)

pub returns-in-Ok-clause-meant : goal.returns-in-Ok-clause-meant
returns-in-Ok-clause-meant g c = λ told.
    let h = (g.F.Source.outside.state c.args.folder.now).held in
    let text = c.as_str.result.now in
    let want = c.args.want.now in
    let new = c.args.new.now in
    let history = new.history.items in
    let means = c.requires.meant in
    let laws = c.repairs_are_lawful.ensures in
    IfOk-weaker c.repair_at.result (AreStepsToRepair text history want h) (λ e. (repository : Image) (contents : Stage) → StagedContents true repository new.publisher h e.staged.items contents → IsRepairedImage c.args.moment new repository (visible h) (visible (all_laid contents (map step_of e.steps.items) h)))
    (λ e are repository contents given. image_seen new want means h (g.met.F.Source.sane.formed c.args.folder.now told) c.args.moment text (subst (IsMomentText c.args.moment) (sym c.as_str.ensures) c.in-Ok.ensures) e are (c.repairs_hang_together.ensures.due history)
    (λ bytes. laws.repair _ _ _ want means bytes is_payload_of history h are.over (are.says bytes))
    (λ bytes. laws.names _ _ _ want means bytes is_payload_of history h are.over (are.says bytes) (c.requires.records told))
    (λ bytes. c.findings_are_of_the_visible_image.ensures.request _ h (laws.repair _ _ _ want means bytes is_payload_of history h are.over (are.says bytes)) (laws.names _ _ _ want means bytes is_payload_of history h are.over (are.says bytes) (c.requires.records told)).news)
    repository contents given) (c.repair_at.ensures.plans.repaired told)
