use Rattle.std.proofs.Common.{refl}
use Rattle.ips_outside.proofs.Reading.{reads_as, reads_none}
use Rattle.ips_next.specs.declared.fault.NextFault.TheVariants as next
use Rattle.ips_run.specs.declared.operation.DecideFault.TheVariants as decide
use Rattle.ips_operations.specs.changing.Refusals.{unled_told}
use Rattle.ips_state.specs.declared.state.State.{State}
use Rattle.ips_operations.specs.changing.Decides.{asked_of}
use Rattle.ips_operations.proofs.changing.Decided.{failed_told, nowhere, told_failed, unled_by}
use Rattle.ips_operations.proofs.changing.Calls.{decided_behind, nothing_changed, unled_folder, unled_nothing}
use Rattle.ips_operations.proofs.changing.deciding.stated.Goals as goal

pub returns-in-Ok : goal.returns-in-Ok
returns-in-Ok g c =
    let o = g.F.Source.outside in
    decided_behind o g.S.Source.outside c.args.command.now c.args.moment c.args.folder.now c.args.folder.now c.led.new.folder c.args.source.now c.next_state.new.source c.led.new.source ⊥ _ c.led.result
    (reads_none o c.args.folder.now ⊥ (λ failed. failed)) (λ failed. failed) c.in-Ok.ensures.reads (λ failed. cc) c.led.ensures

pub returns-in-Err : goal.returns-in-Err
returns-in-Err g c =
    let o = g.F.Source.outside in
    let q = g.S.Source.outside in
    let a = asked_of c.args.command.now c.args.moment (q.tells c.args.source.now) (q.state c.args.source.now).held (o.state c.args.folder.now).held in
    let fault = c.in-Err.fault in
    let answer = c.unled.result in
    let told = c.unled.ensures.told in
    nothing_changed o q c.args.command.now c.args.moment c.args.folder.now c.args.folder.now c.args.source.now c.next_state.new.source answer (unled_nothing fault answer told)
    (λ tells. unled_by State a c.args.old.now fault answer (c.requires.loaded.holds tells) told (nowhere State a c.args.old.now fault c.in-Err.ensures.early c.in-Err.ensures.old_format c.in-Err.ensures.refused))
    c.unled.ensures.says (reads_none o c.args.folder.now _ (unled_folder fault answer told))
    (reads_as q c.args.source.now c.next_state.new.source _ _ c.next_state.ensures.reads
    (failed_told c.next_state.result fault next.SourceFault c.in-Err.is unled_told decide.SourceFault answer told refl)
    (λ failed. told_failed c.next_state.result fault next.SourceFault c.in-Err.is (c.unled.ensures.failed failed)))
