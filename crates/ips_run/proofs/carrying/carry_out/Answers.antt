use Rattle.std.proofs.Common.{◌≡◌, false, refl}
use Rattle.ips_outside.proofs.Faults.{cause_as, cause_behind}
use Rattle.ips_steps.proofs.Lists.{clash}
use Rattle.ips_commit.proofs.Masked.{told_own}
use Rattle.ips_run.specs.Ending.{HasPayloadFault, TellsAtMost, is_done, is_left, is_folder_fault, is_source_fault}
use Rattle.ips_run.proofs.Said.{unrun_payload, unrun_tells}
use Rattle.ips_run.proofs.Carried.{carried_before, carried_part, carried_but, carried_all}
use Rattle.ips_run.proofs.Told.{told_before, told_part, told_done, told_but, unrun_folder, unrun_source, unrun_left, unrun_cause, unrun_before, before_cause, uncommitted_cause}
use Rattle.ips_run.proofs.Listed.{unrun_undone, uncommitted_undone}
use Rattle.ips_run.proofs.carrying.carry_out.Goals as goal

pub returns-in-Err-clause-carried : goal.returns-in-Err-clause-carried
returns-in-Err-clause-carried g c = λ told steps a staged.
    carried_before g.F.Source.outside g.met.F.Source.sane steps a c.args.folder.now staged _ c.given_up.new.folder _ c.in-Err.fault c.given_up.result c.given_up.ensures.unrun (c.given_up.ensures.any_moment told)
    (λ b. c.given_up.ensures.owed told staged.safe staged.shut b) (λ unfailed. c.given_up.ensures.cleared told unfailed)

pub returns-in-Err-clause-told : goal.returns-in-Err-clause-told
returns-in-Err-clause-told g c = λ told steps a staged.
    told_before g.P.Spawner.running steps _ _ _ _ c.args.spawner.now c.run_all.new.spawner c.deref.result.now c.deref.ensures.value c.in-Err.fault c.given_up.result c.in-Err.ensures.fault c.given_up.ensures.unrun c.in-Err.ensures.ran

pub returns-in-Err-clause-read : goal.returns-in-Err-clause-read
returns-in-Err-clause-read g c = unrun_before _ _ c.given_up.result (λ x. is_source_fault x ≡ false) c.given_up.ensures.unrun (unrun_source _ _ _ c.given_up.result) refl

pub returns-in-Err-clause-spawner : goal.returns-in-Err-clause-spawner
returns-in-Err-clause-spawner g c = before_cause _ _ c.given_up.result _ _ c.given_up.ensures.unrun c.in-Err.ensures.cause

pub returns-in-Err-commit-clause-carried : goal.returns-in-Err-commit-clause-carried
returns-in-Err-commit-clause-carried g c = λ told steps a staged.
    let (laid, are, gate, resume) = c.in-Err-commit.ensures.commits.stopped told steps a staged in
    carried_part g.F.Source.outside g.met.F.Source.sane steps a c.args.folder.now staged _ c.commit.new.folder _ (c.commit.ensures.commits.owed told steps a staged) (c.commit.ensures.commits.due told steps a staged)
    c.in-Err-commit.fault c.uncommitted.result (c.in-Err-commit.ensures.commits.faults told steps a staged) c.uncommitted.ensures (steps, laid, are.few, are.tallies, resume)

pub returns-in-Err-commit-clause-told : goal.returns-in-Err-commit-clause-told
returns-in-Err-commit-clause-told g c = λ told steps a staged.
    let (laid, are, gate, resume) = c.in-Err-commit.ensures.commits.stopped told steps a staged in
    told_part g.P.Spawner.running steps _ _ _ _ c.args.spawner.now c.run_all.new.spawner c.deref.result.now c.deref.ensures.value _ c.in-Err-commit.fault c.uncommitted.result laid c.in-Ok.ensures.ran
    (c.in-Err-commit.ensures.commits.faults told steps a staged) c.uncommitted.ensures are.few are.tallies

pub returns-in-Ok-run_all-clause-carried : goal.returns-in-Ok-run_all-clause-carried
returns-in-Ok-run_all-clause-carried g c = λ told steps a staged.
    carried_all g.F.Source.outside g.met.F.Source.sane steps a c.args.folder.now staged _ c.commit.new.folder _ (c.commit.ensures.commits.owed told steps a staged) (c.commit.ensures.commits.due told steps a staged)
    (c.in-Ok-commit.ensures.commits.done told steps a staged).1 _

pub returns-in-Ok-run_all-clause-told : goal.returns-in-Ok-run_all-clause-told
returns-in-Ok-run_all-clause-told g c = λ told steps a staged.
    told_done g.P.Spawner.running steps _ _ _ _ c.args.spawner.now c.run_all.new.spawner c.run_all-2.new.spawner c.run_all.ensures.same_kind c.deref.result.now c.deref.ensures.value c.in-Ok.ensures.ran
    _ (c.in-Ok-commit.ensures.commits.counted told steps a staged) c.deref-2.result.now c.deref-2.ensures.value c.in-Ok-run_all.ensures.ran

pub returns-clause-carried : goal.returns-clause-carried
returns-clause-carried g c = λ told steps a staged.
    carried_but g.F.Source.outside g.met.F.Source.sane steps a c.args.folder.now staged _ c.commit.new.folder _ (c.commit.ensures.commits.owed told steps a staged) (c.commit.ensures.commits.due told steps a staged)
    (c.in-Ok-commit.ensures.commits.done told steps a staged).1 _ c.in-Err-run_all.fault c.unrun.result c.unrun.ensures

pub returns-clause-told : goal.returns-clause-told
returns-clause-told g c = λ told steps a staged.
    told_but g.P.Spawner.running steps _ _ _ _ c.args.spawner.now c.run_all.new.spawner c.run_all-2.new.spawner c.run_all.ensures.same_kind c.deref.result.now c.deref.ensures.value c.in-Ok.ensures.ran
    _ (c.in-Ok-commit.ensures.commits.counted told steps a staged) c.deref-2.result.now c.deref-2.ensures.value c.in-Err-run_all.fault c.unrun.result c.in-Err-run_all.ensures.fault c.unrun.ensures c.in-Err-run_all.ensures.ran

pub returns-clause-folder : goal.returns-clause-folder
returns-clause-folder g c = cause_as _ _ _ _ c.in-Ok-commit.ensures.commits.cause (λ is. cc) (λ is. absurd (clash (is_folder_fault c.unrun.result) is (unrun_folder _ _ _ _ c.unrun.ensures)))

pub returns-clause-read : goal.returns-clause-read
returns-clause-read g c = unrun_source _ _ _ _ c.unrun.ensures

pub returns-clause-spawner : goal.returns-clause-spawner
returns-clause-spawner g c = told_own _ _ _ _ (unrun_cause _ _ _ _ _ _ c.unrun.ensures (cause_behind _ _ _ _ _ _ c.in-Ok.ensures.cause (λ is. is) c.in-Err-run_all.ensures.cause (λ is. is) (λ is. is)))

pub returns-in-Err-clause-changed : goal.returns-in-Err-clause-changed
returns-in-Err-clause-changed g c = λ left. absurd (clash (is_left c.given_up.result) left (unrun_before _ _ c.given_up.result (λ x. is_left x ≡ false) c.given_up.ensures.unrun (unrun_left _ _ _ c.given_up.result) refl))

pub returns-clause-changed : goal.returns-clause-changed
returns-clause-changed g c = λ left. absurd (clash (is_left c.unrun.result) left (unrun_left _ _ _ _ c.unrun.ensures))

pub returns-in-Err-clause-payload : goal.returns-in-Err-clause-payload
returns-in-Err-clause-payload g c = unrun_before _ _ c.given_up.result HasPayloadFault c.given_up.ensures.unrun (unrun_payload c.given_up.result) tt

pub returns-in-Err-clause-tells : goal.returns-in-Err-clause-tells
returns-in-Err-clause-tells g c = unrun_before _ _ c.given_up.result (TellsAtMost _) c.given_up.ensures.unrun (unrun_tells _ c.given_up.result) tt

pub returns-clause-payload : goal.returns-clause-payload
returns-clause-payload g c = unrun_payload _ c.unrun.ensures

pub returns-clause-tells : goal.returns-clause-tells
returns-clause-tells g c = unrun_tells _ _ c.unrun.ensures

pub returns-in-Err-clause-journal : goal.returns-in-Err-clause-journal
returns-in-Err-clause-journal g c = λ told steps a staged done. absurd (clash (is_done c.given_up.result) done (unrun_before _ _ c.given_up.result (λ x. is_done x ≡ false) c.given_up.ensures.unrun (unrun_undone _ _ c.given_up.result) refl))

pub returns-in-Err-commit-clause-journal : goal.returns-in-Err-commit-clause-journal
returns-in-Err-commit-clause-journal g c = λ told steps a staged done. absurd (clash (is_done c.uncommitted.result) done (uncommitted_undone c.in-Err-commit.fault _ c.uncommitted.ensures))

pub returns-in-Ok-run_all-clause-journal : goal.returns-in-Ok-run_all-clause-journal
returns-in-Ok-run_all-clause-journal g c = λ told steps a staged done. c.in-Ok-commit.ensures.commits.journal told steps a staged

pub returns-clause-journal : goal.returns-clause-journal
returns-clause-journal g c = λ told steps a staged done. c.in-Ok-commit.ensures.commits.journal told steps a staged

pub returns-in-Err-commit-clause-spawner : goal.returns-in-Err-commit-clause-spawner
returns-in-Err-commit-clause-spawner g c = uncommitted_cause c.in-Err-commit.fault c.uncommitted.result _ _ c.uncommitted.ensures c.in-Ok.ensures.cause

pub returns-in-Ok-run_all-clause-spawner : goal.returns-in-Ok-run_all-clause-spawner
returns-in-Ok-run_all-clause-spawner g c = told_own _ _ _ _ (cause_behind _ _ _ _ _ _ c.in-Ok.ensures.cause (λ is. is) c.in-Ok-run_all.ensures.cause (λ is. absurd is) (λ is. cc))
