use Rattle.std.proofs.Common.{◌≡◌, ℕ, List, map, true, sym, subst}
use Rattle.std.proofs.lemmas.Result.{IfOk-weaker}
use Rattle.ips_outside.specs.Image.{Image}
use Rattle.ips_steps.specs.Private.{visible}
use Rattle.ips_steps.specs.Steps.{Stage, all_laid}
use Rattle.ips_steps.specs.View.{step_of}
use Rattle.ips_contents.specs.Contents.{StagedContents}
use Rattle.ips_commit.specs.Staging.{CanStage}
use Rattle.ips_state.specs.State.{recorded}
use Rattle.ips_meaning.specs.declared.entry.Entry.{Entry}
use Rattle.ips_load.proofs.Answered.{ok_both}
use Rattle.ips_moment.specs.Moment.{IsMomentText}
use Rattle.ips_emit.specs.declared.emitting.Emitted.{Emitted}
use Rattle.ips_plan.specs.image_plan.Meaning.{StateMeans}
use Rattle.ips_image_steps.specs.Answers.{CanBeListed}
use Rattle.ips_plan.specs.created.Creating.{AreStepsToMake}
use Rattle.ips_plan.specs.created.Made.{image_made}
use Rattle.ips_plan.proofs.created.Making.{can_stage, image_seen}
use Rattle.ips_plan.proofs.created.creating.create.Goals as goal

pub create_at-requires-clause-can : goal.create_at-requires-clause-can
create_at-requires-clause-can g c = record {
  moment = c.moments_name_folders.ensures c.args.moment c.as_str.result.now (subst (IsMomentText c.args.moment) (sym c.as_str.ensures) c.in-Ok.ensures);
  blank = c.requires.blank;
  records = c.requires.records;
}

pub returns-in-Ok-clause-stages : goal.returns-in-Ok-clause-stages
returns-in-Ok-clause-stages g c = λ told.
    let h = (g.F.Source.outside.state c.args.folder.now).held in
    let text = c.as_str.result.now in
    let new = c.args.new.now in
    ok_both c.create_at.result CanBeListed (λ (e : Emitted). (want : List (List ℕ × Entry)) × StateMeans new want × AreStepsToMake text (recorded new) want h e) (λ e. CanStage (map step_of e.steps.items) e.staged.items h)
    (λ e lists made. can_stage new c.requires.blank made.0 made.1 h (g.met.F.Source.sane.formed c.args.folder.now told) (c.requires.records told) text e made.2 lists (c.requires.shut told)) c.create_at.ensures.answers.lists (c.create_at.ensures.laid told)

pub returns-in-Ok-clause-meant : goal.returns-in-Ok-clause-meant
returns-in-Ok-clause-meant g c = λ told.
    let h = (g.F.Source.outside.state c.args.folder.now).held in
    let text = c.as_str.result.now in
    let new = c.args.new.now in
    IfOk-weaker c.create_at.result (λ (e : Emitted). (want : List (List ℕ × Entry)) × StateMeans new want × AreStepsToMake text (recorded new) want h e)
    (λ e. (repository : Image) (publisher : List ℕ) (contents : Stage) → StagedContents true repository publisher h e.staged.items contents → visible (all_laid contents (map step_of e.steps.items) h) ≡ image_made (recorded new) (visible h))
    (λ e made repository publisher contents given. image_seen new c.requires.blank made.0 made.1 h (g.met.F.Source.sane.formed c.args.folder.now told) (c.requires.records told) text e made.2 repository publisher contents given) (c.create_at.ensures.laid told)
