use Rattle.std.proofs.Common.{Bool, Err, ap, ◌∙◌}
use Rattle.ips_text.specs.declared.refusal.Or.{Or}
use Rattle.ips_text.specs.declared.refusal.Or.TheVariants.{Bad}
use Rattle.ips_outside.specs.State.{State}
use Rattle.ips_commit.specs.declared.fault.CommitFault.{CommitFault}
use Rattle.ips_commit.proofs.Unready.{starved_of}
use Rattle.ips_run.proofs.Recoveries.{back, back_fault, back_out_of_memory, told_back, told_on, kept_back, bad_of, says_of}
use Rattle.ips_run.proofs.recovering.recovered.Goals as goal

pub returns-in-Ok-clause-back : goal.returns-in-Ok-clause-back
returns-in-Ok-clause-back g c = λ told.
    let o = g.F.Source.outside in
    let old = c.args.folder.now in
    back o _ _ old c.recover.new.folder (λ b a due owes. c.recover.ensures.recovers.owed told b a due owes) c.in-Ok.forward (c.in-Ok.ensures.recovers.forward told)
    (λ steps count a is_open. (c.in-Ok.ensures.recovers.meant told steps count a is_open).0)
    (λ there. c.in-Ok.ensures.recovers.done told there)
    (λ shut. c.in-Ok.ensures.recovers.cleared told shut)
    (λ shut. c.recover.ensures.recovers.uncounted told shut)

pub returns-in-Ok-clause-told : goal.returns-in-Ok-clause-told
returns-in-Ok-clause-told g c = λ told.
    let o = g.F.Source.outside in
    told_on (o.state c.recover.new.folder) (o.state c.args.folder.now).held _ _ c.in-Ok.forward (c.in-Ok.ensures.recovers.forward told) (λ there. c.in-Ok.ensures.recovers.done told there)

pub returns-in-Err-Bad-clause-back : goal.returns-in-Err-Bad-clause-back
returns-in-Err-Bad-clause-back g c = λ told.
    back_fault g.F.Source.outside _ _ c.args.folder.now c.recover.new.folder (λ b a due owes. c.recover.ensures.recovers.owed told b a due owes) c.in-Err-Bad.fault c.uncommitted.result c.uncommitted.ensures
    (says_of Bool c.in-Err-Bad.field-0 c.in-Err-Bad.fault c.in-Err-Bad.field-0-is _ (c.in-Err-Bad.ensures.recovers.refused told))
    (λ shut. c.recover.ensures.recovers.closed told shut)
    (λ steps count a is_open line is. bad_of {T = Bool} (Err c.in-Err-Bad.field-0) c.in-Err-Bad.fault line (ap (λ (e : Or CommitFault). Err e) c.in-Err-Bad.field-0-is) is (c.in-Err-Bad.ensures.recovers.meant told steps count a is_open).1)
    (λ unfinished steps count lists. says_of Bool c.in-Err-Bad.field-0 c.in-Err-Bad.fault c.in-Err-Bad.field-0-is _ (c.in-Err-Bad.ensures.recovers.stopped told steps count lists) unfinished)

pub returns-in-Err-OutOfMemory-clause-back : goal.returns-in-Err-OutOfMemory-clause-back
returns-in-Err-OutOfMemory-clause-back g c = λ told.
    back_out_of_memory g.F.Source.outside _ _ c.args.folder.now c.recover.new.folder (λ b a due owes. c.recover.ensures.recovers.owed told b a due owes)
    (starved_of Bool c.in-Err-OutOfMemory.field-0 _ c.in-Err-OutOfMemory.field-0-is c.in-Err-OutOfMemory.ensures.recovers.starved).0
    (λ shut. c.recover.ensures.recovers.closed told shut)

pub returns-in-Err-Bad-clause-told : goal.returns-in-Err-Bad-clause-told
returns-in-Err-Bad-clause-told g c = λ told.
    let o = g.F.Source.outside in
    told_back c.in-Err-Bad.fault c.uncommitted.result (o.state c.args.folder.now) (o.state c.recover.new.folder) _ _ c.uncommitted.ensures
    (says_of Bool c.in-Err-Bad.field-0 c.in-Err-Bad.fault c.in-Err-Bad.field-0-is _ (c.in-Err-Bad.ensures.recovers.refused told))
    (λ unchanged. c.in-Err-Bad.ensures.recovers.unlaid (ap (λ (e : Or CommitFault). Err e) (c.in-Err-Bad.field-0-is ∙ ap (λ (w : CommitFault). Bad w) unchanged)))
    (λ none there. (c.recover.ensures.recovers.read_first told none there).2)

pub returns-in-Err-Bad-clause-kept : goal.returns-in-Err-Bad-clause-kept
returns-in-Err-Bad-clause-kept g c = λ told there refused.
    let o = g.F.Source.outside in
    kept_back c.in-Err-Bad.fault c.uncommitted.result (o.state c.args.folder.now) (o.state c.recover.new.folder) _ _ c.uncommitted.ensures
    (says_of Bool c.in-Err-Bad.field-0 c.in-Err-Bad.fault c.in-Err-Bad.field-0-is _ (c.in-Err-Bad.ensures.recovers.refused told)) there refused

pub returns-in-Err-OutOfMemory-clause-kept : goal.returns-in-Err-OutOfMemory-clause-kept
returns-in-Err-OutOfMemory-clause-kept g c = λ told there refused.
    (starved_of Bool c.in-Err-OutOfMemory.field-0 _ c.in-Err-OutOfMemory.field-0-is c.in-Err-OutOfMemory.ensures.recovers.starved).0

pub returns-in-Err-OutOfMemory-clause-told : goal.returns-in-Err-OutOfMemory-clause-told
returns-in-Err-OutOfMemory-clause-told g c = λ told.
    let kept = starved_of Bool c.in-Err-OutOfMemory.field-0 _ c.in-Err-OutOfMemory.field-0-is c.in-Err-OutOfMemory.ensures.recovers.starved in
    (ap (λ (s : State). s.held) kept.0, kept.2)
