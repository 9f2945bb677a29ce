use Rattle.std.proofs.Common.{inl, inr, refl, sym, ◌∙◌, subst}
use Rattle.ips_outside.specs.State.{State, IsSettled}
use Rattle.ips_sends.specs.Whole.{AreWholeOrOut}
use Rattle.ips_put.proofs.Ends.{call_kept, then_kept, settled_is}
use Rattle.ips_put.proofs.Settled.{settles_as}
use Rattle.ips_put.proofs.settling.settle.Goals as goal

pub returns-in_default-clause-kept : goal.returns-in_default-clause-kept
returns-in_default-clause-kept g c = λ told xs keeps.
    call_kept g.F.Source.outside g.met.F.Source.sane (AreWholeOrOut xs) c.args.folder.now c.sync.new.self c.sync.ensures.call.time (inl c.in_default.ensures.kept) keeps

pub finish-requires-clause-safe : goal.finish-requires-clause-safe
finish-requires-clause-safe g c = λ told.
    subst IsSettled (sym (c.in-Ok.ensures.done (sym c.sync.ensures.call.same_kind ∙ told))) (settled_is (g.F.Source.outside.state c.args.folder.now))

pub returns-clause-kept : goal.returns-clause-kept
returns-clause-kept g c = λ told xs keeps.
    then_kept g.F.Source.outside g.met.F.Source.sane (AreWholeOrOut xs) c.args.folder.now c.sync.new.self c.finish.new.folder
    (call_kept g.F.Source.outside g.met.F.Source.sane (AreWholeOrOut xs) c.args.folder.now c.sync.new.self c.sync.ensures.call.time (inr (c.in-Ok.ensures.done told)) keeps)
    (c.finish.ensures.kept (c.sync.ensures.call.same_kind ∙ told) xs)

pub returns-in_default-clause-settles : goal.returns-in_default-clause-settles
returns-in_default-clause-settles g c = λ told. inl (c.in_default.ensures.kept, refl, tt)

pub returns-clause-settles : goal.returns-clause-settles
returns-clause-settles g c = λ told. inr (settles_as g.F.Source.outside _ _ c.finish.new.folder _ _ c.finish.result (c.in-Ok.ensures.done told) (c.finish.ensures.settles (c.sync.ensures.call.same_kind ∙ told)))
