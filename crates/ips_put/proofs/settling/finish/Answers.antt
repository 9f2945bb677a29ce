use Rattle.std.proofs.Common.{inl, inr, refl, sym, ◌∙◌, ap, subst}
use Rattle.ips_outside.specs.State.{State, IsSettled}
use Rattle.ips_outside.specs.Image.{Image}
use Rattle.ips_steps.specs.Private.{gate_name}
use Rattle.ips_commit.specs.Pending.{IsPending}
use Rattle.ips_commit.specs.declared.found.Pending.{Pending}
use Rattle.ips_sends.specs.Whole.{AreWholeOrOut}
use Rattle.ips_put.proofs.Ends.{call_kept, then_kept, bare_shut}
use Rattle.ips_put.specs.Settling.{IsUnseen, HasNothing, IsRecovered}
use Rattle.ips_put.proofs.settling.finish.Goals as goal

pub returns-in-Err-Bad-clause-kept : goal.returns-in-Err-Bad-clause-kept
returns-in-Err-Bad-clause-kept g c = λ told xs keeps.
    call_kept g.F.Source.outside g.met.F.Source.sane (AreWholeOrOut xs) c.args.folder.now c.pending.new.folder c.pending.ensures.reads.call.time (inl c.pending.ensures.reads.kept) keeps

pub returns-in-Err-OutOfMemory-clause-kept : goal.returns-in-Err-OutOfMemory-clause-kept
returns-in-Err-OutOfMemory-clause-kept g c = λ told xs keeps.
    call_kept g.F.Source.outside g.met.F.Source.sane (AreWholeOrOut xs) c.args.folder.now c.pending.new.folder c.pending.ensures.reads.call.time (inl c.pending.ensures.reads.kept) keeps

pub returns-in-Nothing-clause-kept : goal.returns-in-Nothing-clause-kept
returns-in-Nothing-clause-kept g c = λ told xs keeps.
    call_kept g.F.Source.outside g.met.F.Source.sane (AreWholeOrOut xs) c.args.folder.now c.pending.new.folder c.pending.ensures.reads.call.time (inl c.pending.ensures.reads.kept) keeps

pub returns-in-Nothing-clause-safe : goal.returns-in-Nothing-clause-safe
returns-in-Nothing-clause-safe g c = λ told. subst IsSettled (sym c.pending.ensures.reads.kept) (c.requires.safe told)

pub returns-in-Nothing-clause-shut : goal.returns-in-Nothing-clause-shut
returns-in-Nothing-clause-shut g c = λ told.
    let found = subst (λ (p : Pending). IsPending (g.F.Source.outside.state c.args.folder.now).held p) c.in-Nothing.is (c.in-Ok.ensures.found told) in
    ap (λ (s : State). s.held.look gate_name) c.pending.ensures.reads.kept ∙ bare_shut (g.F.Source.outside.state c.args.folder.now).held found

pub restore-requires-clause-safe : goal.restore-requires-clause-safe
restore-requires-clause-safe g c = λ told. subst IsSettled (sym c.pending.ensures.reads.kept) (c.requires.safe (sym c.pending.ensures.reads.call.same_kind ∙ told))

pub returns-in-Leftover-clause-kept : goal.returns-in-Leftover-clause-kept
returns-in-Leftover-clause-kept g c = λ told xs keeps.
    then_kept g.F.Source.outside g.met.F.Source.sane (AreWholeOrOut xs) c.args.folder.now c.pending.new.folder c.restore.new.folder
    (call_kept g.F.Source.outside g.met.F.Source.sane (AreWholeOrOut xs) c.args.folder.now c.pending.new.folder c.pending.ensures.reads.call.time (inl c.pending.ensures.reads.kept) keeps)
    (c.restore.ensures.kept (c.pending.ensures.reads.call.same_kind ∙ told) xs)

pub returns-in-Leftover-clause-safe : goal.returns-in-Leftover-clause-safe
returns-in-Leftover-clause-safe g c = λ told. c.restore.ensures.safe (c.pending.ensures.reads.call.same_kind ∙ told)

pub returns-in-Leftover-clause-shut : goal.returns-in-Leftover-clause-shut
returns-in-Leftover-clause-shut g c = λ told. c.restore.ensures.shut (c.pending.ensures.reads.call.same_kind ∙ told)

pub returns-in-Err-Bad-clause-settles : goal.returns-in-Err-Bad-clause-settles
returns-in-Err-Bad-clause-settles g c = λ told. IsUnseen c.pending.ensures.reads.kept refl tt

pub returns-in-Err-OutOfMemory-clause-settles : goal.returns-in-Err-OutOfMemory-clause-settles
returns-in-Err-OutOfMemory-clause-settles g c = λ told. IsUnseen c.pending.ensures.reads.kept refl tt

pub returns-in-Nothing-clause-settles : goal.returns-in-Nothing-clause-settles
returns-in-Nothing-clause-settles g c = λ told.
    HasNothing c.pending.ensures.reads.kept refl (subst (λ (p : Pending). IsPending (g.F.Source.outside.state c.args.folder.now).held p) c.in-Nothing.is (c.in-Ok.ensures.found told)) refl

pub returns-in-Leftover-clause-settles : goal.returns-in-Leftover-clause-settles
returns-in-Leftover-clause-settles g c = λ told. let r = c.restore.ensures.recovers in IsRecovered c.pending.new.folder r.0 c.pending.ensures.reads.kept r.2 r.1
