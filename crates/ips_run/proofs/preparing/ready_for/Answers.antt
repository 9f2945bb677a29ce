use Rattle.std.proofs.Common.{⊎_elim, false, refl, ◌∙◌, ap, subst}
use Rattle.ips_text.specs.declared.refusal.Or.TheVariants.{Bad}
use Rattle.ips_contents.specs.declared.fault.StageFault.{StageFault}
use Rattle.ips_commit.specs.Staging.{LeavesNothing}
use Rattle.ips_run.specs.declared.ending.Ending.TheVariants as ending
use Rattle.ips_run.proofs.Leaving.{leaves_nothing, leaves_same, leaves_some}
use Rattle.ips_run.proofs.Unbegun.{unbegun_behind}
use Rattle.ips_run.proofs.preparing.ready_for.Goals as goal

pub returns-in-Err-Bad-Payload-clause-unbegun : goal.returns-in-Err-Bad-Payload-clause-unbegun
returns-in-Err-Bad-Payload-clause-unbegun g c = λ told.
    unbegun_behind g.F.Source.outside g.met.F.Source.sane c.args.folder.now c.stage.new.folder (c.stage.ensures.any_moment told) (c.in-Err-Bad-Payload.ensures.unready told)

pub returns-in-Err-Bad-SourceFault-clause-unbegun : goal.returns-in-Err-Bad-SourceFault-clause-unbegun
returns-in-Err-Bad-SourceFault-clause-unbegun g c = λ told.
    unbegun_behind g.F.Source.outside g.met.F.Source.sane c.args.folder.now c.stage.new.folder (c.stage.ensures.any_moment told) (c.in-Err-Bad-SourceFault.ensures.unready told)

pub returns-in-Err-Bad-FolderFault-clause-unbegun : goal.returns-in-Err-Bad-FolderFault-clause-unbegun
returns-in-Err-Bad-FolderFault-clause-unbegun g c = λ told.
    unbegun_behind g.F.Source.outside g.met.F.Source.sane c.args.folder.now c.stage.new.folder (c.stage.ensures.any_moment told) (c.in-Err-Bad-FolderFault.ensures.unready told)

pub returns-in-Err-OutOfMemory-clause-unbegun : goal.returns-in-Err-OutOfMemory-clause-unbegun
returns-in-Err-OutOfMemory-clause-unbegun g c = λ told.
    unbegun_behind g.F.Source.outside g.met.F.Source.sane c.args.folder.now c.stage.new.folder (c.stage.ensures.any_moment told) (c.in-Err-OutOfMemory.ensures.unready told)

pub returns-in-Err-Bad-Payload-clause-left : goal.returns-in-Err-Bad-Payload-clause-left
returns-in-Err-Bad-Payload-clause-left g c = λ told effect. leaves_nothing effect _ _ _ (λ refused unfailed. subst (LeavesNothing (g.F.Source.outside.state c.args.folder.now).held (g.F.Source.outside.state c.stage.new.folder).held) (c.in-Err-Bad-Payload.field-0-is ∙ ap (λ (w : StageFault). Bad w) c.in-Err-Bad-Payload.field-0-0-is) (c.in-Err-Bad-Payload.ensures.swept told))

pub returns-in-Err-Bad-SourceFault-clause-left : goal.returns-in-Err-Bad-SourceFault-clause-left
returns-in-Err-Bad-SourceFault-clause-left g c = λ told effect. leaves_nothing effect _ _ ending.SourceFault (λ refused unfailed. subst (LeavesNothing (g.F.Source.outside.state c.args.folder.now).held (g.F.Source.outside.state c.stage.new.folder).held) (c.in-Err-Bad-SourceFault.field-0-is ∙ ap (λ (w : StageFault). Bad w) c.in-Err-Bad-SourceFault.field-0-0-is) (c.in-Err-Bad-SourceFault.ensures.swept told))

pub returns-in-Err-Bad-FolderFault-clause-left : goal.returns-in-Err-Bad-FolderFault-clause-left
returns-in-Err-Bad-FolderFault-clause-left g c = λ told effect. leaves_some effect _ _ (ending.FolderFault false) refl refl

pub returns-in-Err-OutOfMemory-clause-left : goal.returns-in-Err-OutOfMemory-clause-left
returns-in-Err-OutOfMemory-clause-left g c = λ told effect.
    ⊎_elim (λ cleared. leaves_nothing effect _ _ ending.OutOfMemory (λ refused unfailed. cleared)) (λ same. leaves_same effect _ _ ending.OutOfMemory refl same) (subst (LeavesNothing (g.F.Source.outside.state c.args.folder.now).held (g.F.Source.outside.state c.stage.new.folder).held) c.in-Err-OutOfMemory.field-0-is (c.in-Err-OutOfMemory.ensures.swept told))
