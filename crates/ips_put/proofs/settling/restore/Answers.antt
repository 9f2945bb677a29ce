use Rattle.std.proofs.Common.{Ok, Err, refl}
use Rattle.ips_steps.specs.Private.{visible}
use Rattle.ips_sends.specs.Whole.{AreWholeOrOut}
use Rattle.ips_put.proofs.Ends.{recovery_kept, left_safe}
use Rattle.ips_put.proofs.settling.restore.Goals as goal

pub returns-in-Ok-clause-kept : goal.returns-in-Ok-clause-kept
returns-in-Ok-clause-kept g c = λ told xs keeps.
    recovery_kept g.F.Source.outside g.met.F.Source.sane (AreWholeOrOut xs) c.args.folder.now c.recover.new.folder (c.requires.safe told) (λ b a due owes. c.recover.ensures.recovers.owed told b a due owes) keeps

pub returns-in-Ok-clause-safe : goal.returns-in-Ok-clause-safe
returns-in-Ok-clause-safe g c = λ told.
    (left_safe (g.F.Source.outside.state c.recover.new.folder) (g.F.Source.outside.state c.args.folder.now).held
    (λ shut. c.in-Ok.ensures.recovers.cleared told shut) (λ there. let d = c.in-Ok.ensures.recovers.done told there in (_, d.3))).0

pub returns-in-Ok-clause-shut : goal.returns-in-Ok-clause-shut
returns-in-Ok-clause-shut g c = λ told.
    (left_safe (g.F.Source.outside.state c.recover.new.folder) (g.F.Source.outside.state c.args.folder.now).held
    (λ shut. c.in-Ok.ensures.recovers.cleared told shut) (λ there. let d = c.in-Ok.ensures.recovers.done told there in (_, d.3))).1

pub returns-in-Err-clause-kept : goal.returns-in-Err-clause-kept
returns-in-Err-clause-kept g c = λ told xs keeps.
    recovery_kept g.F.Source.outside g.met.F.Source.sane (AreWholeOrOut xs) c.args.folder.now c.recover.new.folder (c.requires.safe told) (λ b a due owes. c.recover.ensures.recovers.owed told b a due owes) keeps

pub returns-in-Ok-clause-recovers : goal.returns-in-Ok-clause-recovers
returns-in-Ok-clause-recovers g c = (Ok c.in-Ok.field-0, refl, c.in-Ok.ensures.recovers)

pub returns-in-Err-clause-recovers : goal.returns-in-Err-clause-recovers
returns-in-Err-clause-recovers g c = (Err c.in-Err.fault, refl, c.in-Err.ensures.recovers)
