use Rattle.std.proofs.Common.{◌≡◌, Bool, Ok, Err, ◌∙◌, ap}
use Rattle.std.proofs.lemmas.Result.{err_from_is_err_and}
use Rattle.ips_journal.specs.declared.fault.StepFault.{StepFault}
use Rattle.ips_journal.specs.declared.fault.StepFault.TheVariants.{FolderFault}
use Rattle.ips_apply.proofs.Going.{all_ended, all_read, all_unread}
use Rattle.ips_apply.proofs.applying.apply.Goals as goal

pub returns-in-Ok-default-true-clause-applied : goal.returns-in-Ok-default-true-clause-applied
returns-in-Ok-default-true-clause-applied g c =
    all_ended g.F.Source.outside g.met.F.Source.sane c.args.folder.now c.apply_block.new.folder c.args.reader.now c.apply_block.new.reader _ _ c.apply_block.result c.in-Ok-default-true.count
    (c.in-Ok-default-true.is ∙ ap (λ (b : Bool). Ok (c.in-Ok-default-true.count, b)) c.in-Ok-default-true.field-0-1-test) c.apply_block.ensures.applied

pub returns-in_err-_more-clause-applied : goal.returns-in_err-_more-clause-applied
returns-in_err-_more-clause-applied g c =
    let left = err_from_is_err_and c.from_residual.result c.from_residual.ensures.1 in
    all_unread g.F.Source.outside g.met.F.Source.sane c.args.folder.now c.apply_block.new.folder c.args.reader.now c.apply_block.new.reader _ _ c.apply_block.result c.in-Ok-default-false.count
    (c.in-Ok-default-false.is ∙ ap (λ (b : Bool). Ok (c.in-Ok-default-false.count, b)) c.in-Ok-default-false.field-0-1-test) c.apply_block.ensures.applied c.apply_block.ensures.same_kind
    c.next.new.folder c.next.new.self (c.next.result ≡ Err FolderFault) c.next.ensures.reads c.next.result c.next.ensures.means c.next.ensures.next c.from_residual.result c.in_err-_more.field-0.0 (left.1 ∙ ap (λ (e : StepFault). Err e) left.2) c.in_err-_more.was

pub returns-clause-applied : goal.returns-clause-applied
returns-clause-applied g c =
    all_read g.F.Source.outside g.met.F.Source.sane c.args.folder.now c.apply_block.new.folder c.args.reader.now c.apply_block.new.reader _ _ c.apply_block.result c.in-Ok-default-false.count
    (c.in-Ok-default-false.is ∙ ap (λ (b : Bool). Ok (c.in-Ok-default-false.count, b)) c.in-Ok-default-false.field-0-1-test) c.apply_block.ensures.applied c.apply_block.ensures.same_kind
    c.next.new.folder c.next.new.self (c.next.result ≡ Err FolderFault) c.next.ensures.reads c.next.result c.next.ensures.means c.next.ensures.next c.in_ok-_more._more c.in_ok-_more.was
