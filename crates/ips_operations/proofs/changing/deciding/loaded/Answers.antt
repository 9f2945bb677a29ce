use Rattle.std.proofs.Common.{refl, sym, ◌∙◌}
use Rattle.ips_outside.proofs.Reading.{reads_as, reads_none}
use Rattle.ips_load.specs.declared.fault.StateFault.TheVariants as state
use Rattle.ips_state.specs.declared.state.State.{State}
use Rattle.ips_run.specs.declared.operation.DecideFault.TheVariants as decide
use Rattle.ips_tell.specs.refusals.Told.{unread_told}
use Rattle.ips_operations.specs.changing.Decides.{asked_of}
use Rattle.ips_operations.proofs.changing.Decided.{failed_told, told_failed, unread_by}
use Rattle.ips_operations.proofs.changing.Calls.{decided_behind, loaded_behind, nothing_changed, unread_folder, unread_nothing, unread_source}
use Rattle.ips_operations.proofs.changing.deciding.loaded.Goals as goal

pub stated-requires-clause-loaded : goal.stated-requires-clause-loaded
stated-requires-clause-loaded g c = loaded_behind g.F.Source.outside g.S.Source.outside c.args.folder.now c.load.new.folder _ c.in-Ok.old c.load.ensures.reads c.requires.shut c.in-Ok.ensures.lawful c.in-Ok.ensures.found

pub returns-in-Ok : goal.returns-in-Ok
returns-in-Ok g c =
    let q = g.S.Source.outside in
    decided_behind g.F.Source.outside q c.args.command.now c.args.moment c.args.folder.now c.load.new.folder c.stated.new.folder c.args.source.now c.args.source.now c.stated.new.source _ ⊥ c.stated.result
    c.in-Ok.ensures.reads (λ failed. cc) (reads_none q c.args.source.now ⊥ (λ failed. failed)) (λ failed. failed) c.stated.ensures

pub returns-in-Err : goal.returns-in-Err
returns-in-Err g c =
    let o = g.F.Source.outside in
    let q = g.S.Source.outside in
    let a = asked_of c.args.command.now c.args.moment (q.tells c.args.source.now) (q.state c.args.source.now).held (o.state c.args.folder.now).held in
    let fault = c.in-Err.fault in
    let answer = c.unread.result in
    let told = c.unread.ensures.told in
    nothing_changed o q c.args.command.now c.args.moment c.args.folder.now c.load.new.folder c.args.source.now c.args.source.now answer (unread_nothing fault answer told)
    (λ tells. unread_by State a fault answer told (c.in-Err.ensures.fault tells)) c.unread.ensures.says
    (reads_as o c.args.folder.now c.load.new.folder _ _ c.load.ensures.reads (failed_told c.load.result fault state.FolderFault c.in-Err.is unread_told decide.FolderFault answer told refl)
    (λ failed. told_failed c.load.result fault state.FolderFault c.in-Err.is (unread_folder fault (sym told ∙ failed))))
    (reads_none q c.args.source.now _ (λ failed. unread_source fault (sym told ∙ failed)))
