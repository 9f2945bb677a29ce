use Rattle.std.proofs.Common.{inl, sym, ◌∙◌, refl, ap, subst}
use Rattle.ips_outside.specs.State.{State, IsSettled}
use Rattle.ips_commit.proofs.Masked.{told_own, reads_with}
use Rattle.ips_run.specs.Comes.{Leaves}
use Rattle.ips_run.proofs.Opened.{stays_owed, owes_seen}
use Rattle.ips_run.proofs.Leaving.{leaves_same, reads_on}
use Rattle.ips_run.proofs.Carried.{owed_from}
use Rattle.ips_run.proofs.Told.{unready_behind, readied}
use Rattle.ips_run.proofs.Unbegun.{unbegun_since}
use Rattle.ips_run.proofs.preparing.prepare.Goals as goal

pub returns-in-Err-clause-owed : goal.returns-in-Err-clause-owed
returns-in-Err-clause-owed g c = λ told clean a.
    let o = g.F.Source.outside in
    stays_owed o g.met.F.Source.sane c.args.folder.now c.decided.new.folder c.decided.ensures.reads.call.time c.decided.ensures.reads.kept _ a _ (owes_seen (o.state c.args.folder.now) a clean (c.requires.shut told))

pub returns-in-Err-ready_for-clause-owed : goal.returns-in-Err-ready_for-clause-owed
returns-in-Err-ready_for-clause-owed g c = λ told clean a.
    let o = g.F.Source.outside in
    owed_from o g.met.F.Source.sane c.args.folder.now c.decided.new.folder c.ready_for.new.folder a c.decided.ensures.reads.call.time c.decided.ensures.reads.kept clean (c.requires.shut told)
    (c.ready_for.ensures.owed (c.decided.ensures.reads.call.same_kind ∙ told) (subst (λ (s : State). IsSettled s) (sym c.decided.ensures.reads.kept) clean) a)

pub returns-in-Err-ready_for-clause-unready : goal.returns-in-Err-ready_for-clause-unready
returns-in-Err-ready_for-clause-unready g c = λ told.
    let r = g.S.Source.outside in
    unready_behind (g.C.Operation.effect c.args.operation.now) (g.C.Operation.decides c.args.operation.now (r.tells c.args.source.now) (r.state c.args.source.now).held (g.F.Source.outside.state c.args.folder.now).held) (r.tells c.args.source.now) (r.tells c.decided.new.source) (r.state c.args.source.now) (r.state c.decided.new.source) c.in-Ok.change c.in-Err-ready_for.ending c.in-Ok.ensures.changes (c.in-Ok.ensures.decided told)
    c.decided.ensures.source.call.same_kind c.decided.ensures.source.kept c.in-Err-ready_for.ensures.unstaged

pub returns-clause-owed : goal.returns-clause-owed
returns-clause-owed g c = λ told clean a.
    let o = g.F.Source.outside in
    owed_from o g.met.F.Source.sane c.args.folder.now c.decided.new.folder c.ready_for.new.folder a c.decided.ensures.reads.call.time c.decided.ensures.reads.kept clean (c.requires.shut told)
    (c.ready_for.ensures.owed (c.decided.ensures.reads.call.same_kind ∙ told) (subst (λ (s : State). IsSettled s) (sym c.decided.ensures.reads.kept) clean) a)

pub returns-clause-readied : goal.returns-clause-readied
returns-clause-readied g c = λ told.
    let o = g.F.Source.outside in
    let r = g.S.Source.outside in
    readied (g.C.Operation.means c.args.operation.now) (g.C.Operation.decides c.args.operation.now (r.tells c.args.source.now) (r.state c.args.source.now).held (o.state c.args.folder.now).held) (r.tells c.args.source.now) (r.tells c.decided.new.source) (r.state c.args.source.now) (r.state c.decided.new.source)
    (o.state c.args.folder.now) (o.state c.decided.new.folder) (o.state c.ready_for.new.folder) c.in-Ok.change _
    c.decided.ensures.source.call.same_kind c.decided.ensures.source.kept c.decided.ensures.reads.kept (c.in-Ok.ensures.decided told) (c.in-Ok.ensures.planned told)
    refl refl refl (c.in-Ok-ready_for.ensures.staged (c.decided.ensures.reads.call.same_kind ∙ told)) (λ is. c.in-Ok-ready_for.ensures.intact is)

pub returns-in-Err-clause-unbegun : goal.returns-in-Err-clause-unbegun
returns-in-Err-clause-unbegun g c = λ told. inl c.decided.ensures.reads.kept

pub returns-in-Err-ready_for-clause-unbegun : goal.returns-in-Err-ready_for-clause-unbegun
returns-in-Err-ready_for-clause-unbegun g c = λ told.
    let o = g.F.Source.outside in
    unbegun_since (o.state c.args.folder.now) (o.state c.decided.new.folder) (o.state c.ready_for.new.folder) c.decided.ensures.reads.kept
    (c.in-Err-ready_for.ensures.unbegun (c.decided.ensures.reads.call.same_kind ∙ told))

pub returns-in-Err-clause-left : goal.returns-in-Err-clause-left
returns-in-Err-clause-left g c = λ told.
    leaves_same (g.C.Operation.effect c.args.operation.now) (g.F.Source.outside.state c.args.folder.now).held (g.F.Source.outside.state c.decided.new.folder).held c.in-Err.ending c.in-Err.ensures.unstaged (ap (λ (s : State). s.held) c.decided.ensures.reads.kept)

pub returns-in-Err-ready_for-clause-left : goal.returns-in-Err-ready_for-clause-left
returns-in-Err-ready_for-clause-left g c = λ told.
    let n = g.C.Operation.effect c.args.operation.now in
    subst (λ (s : State). Leaves n s.held (g.F.Source.outside.state c.ready_for.new.folder).held c.in-Err-ready_for.ending) c.decided.ensures.reads.kept
    (c.in-Err-ready_for.ensures.left (c.decided.ensures.reads.call.same_kind ∙ told) n)

pub returns-in-Err-clause-source : goal.returns-in-Err-clause-source
returns-in-Err-clause-source g c = reads_with g.S.Source.outside _ _ _ _ c.in-Err.ensures.source (told_own _ _ _ _ c.in-Err.ensures.source.call.cause)

pub returns-in-Err-ready_for-clause-source : goal.returns-in-Err-ready_for-clause-source
returns-in-Err-ready_for-clause-source g c = reads_on g.S.Source.outside _ _ _ _ _ _ _ c.in-Ok.ensures.source c.in-Err-ready_for.ensures.source (λ is. is) (λ is. is) (λ is. is)

pub returns-clause-source : goal.returns-clause-source
returns-clause-source g c = reads_on g.S.Source.outside _ _ _ _ _ _ _ c.in-Ok.ensures.source c.in-Ok-ready_for.ensures.source (λ is. is) (λ is. is) (λ is. is)
