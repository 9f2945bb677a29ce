use Rattle.std.proofs.Common.{◌≡◌, inl, Bool, Ok, Err, sym, ◌∙◌, ap, subst, arith}
use Rattle.std.proofs.lemmas.Result.{err_from_is_err_and}
use Rattle.ips_journal.specs.declared.fault.StepFault.{StepFault}
use Rattle.ips_journal.specs.declared.fault.StepFault.TheVariants.{FolderFault}
use Rattle.ips_outside.proofs.Reading.{no_fault}
use Rattle.ips_outside.specs.State.{State}
use Rattle.ips_apply.specs.Judging.{IsKnown}
use Rattle.ips_apply.proofs.Going.{going_start, ends_there, ends_reading_as, ends_at_step, ends_full, going_on, takers_stay, lends_one}
use Rattle.ips_apply.proofs.applying.apply_block.Goals as goal

pub loop-count-init : goal.loop-count-init
loop-count-init g c = record { going = going_start g.F.Source.outside g.met.F.Source.sane c.args.folder.now c.args.reader.now _ c.requires.open; few = omega arith; known = λ told. inl c.none-known.ensures }

pub lay_next-requires-clause-takers : goal.lay_next-requires-clause-takers
lay_next-requires-clause-takers g c = takers_stay g.F.Source.outside c.args.folder.now c.loop-count.folder c.args.reader.now c.loop-count.reader _ _ c.loop-count.count c.loop-count.invariant.going c.requires.takers

pub lay_next-requires-clause-known : goal.lay_next-requires-clause-known
lay_next-requires-clause-known g c = λ told.
    subst (λ (s : State). IsKnown s.held c.loop-count.known) (sym c.next.ensures.reads.kept) (c.loop-count.invariant.known (sym c.next.ensures.reads.call.same_kind ∙ told))

pub returns-in_err-next-clause-applied : goal.returns-in_err-next-clause-applied
returns-in_err-next-clause-applied g c =
    let left = err_from_is_err_and c.from_residual.result c.from_residual.ensures.1 in
    ends_reading_as g.F.Source.outside g.met.F.Source.sane c.args.folder.now c.loop-count.folder c.next.new.folder c.args.reader.now c.loop-count.reader c.next.new.self _ _ c.loop-count.count c.loop-count.invariant.going (c.next.result ≡ Err FolderFault) c.next.ensures.reads c.next.result c.next.ensures.means c.args.most c.loop-count-test.true c.next.ensures.next c.from_residual.result c.in_err-next.field-0.0 (left.1 ∙ ap (λ (e : StepFault). Err e) left.2) c.in_err-next.was

pub returns-then-not-branch-clause-applied : goal.returns-then-not-branch-clause-applied
returns-then-not-branch-clause-applied g c =
    ends_there g.F.Source.outside g.met.F.Source.sane c.args.folder.now c.loop-count.folder c.next.new.folder c.args.reader.now c.loop-count.reader c.next.new.self _ _ c.loop-count.count c.loop-count.invariant.going (c.next.result ≡ Err FolderFault) c.next.ensures.reads c.next.result c.next.ensures.means c.args.most c.loop-count-test.true (c.in_ok-next.was ∙ ap (λ (b : Bool). Ok b) c.if-not-branch.true)

pub returns-in_err-lay_next-clause-applied : goal.returns-in_err-lay_next-clause-applied
returns-in_err-lay_next-clause-applied g c =
    let left = err_from_is_err_and c.from_residual-in_err-lay_next.result c.from_residual-in_err-lay_next.ensures.1 in
    let one = lends_one c.next.new.self.step (c.in_ok-next.ensures.lends.0 ∙ c.if-not-branch.false) in
    ends_at_step g.F.Source.outside g.met.F.Source.sane c.args.folder.now c.loop-count.folder c.next.new.folder c.args.reader.now c.loop-count.reader c.next.new.self _ _ c.loop-count.count c.loop-count.invariant.going (c.next.result ≡ Err FolderFault) c.next.ensures.reads c.next.result c.next.ensures.means c.args.most c.loop-count-test.true one.0 (c.in_ok-next.was ∙ ap (λ (b : Bool). Ok b) c.if-not-branch.false) one.1
    c.lay_next.new.folder _ c.from_residual-in_err-lay_next.result c.in_err-lay_next.field-0.0 c.in_err-lay_next.ensures.uncounted (left.1 ∙ ap (λ (e : StepFault). Err e) left.2) c.in_err-lay_next.ensures.line
    (λ told. c.lay_next.ensures.any_moment told one.0 one.1) (λ told. c.in_err-lay_next.ensures.bad told one.0 one.1)

pub loop-count-preserved : goal.loop-count-preserved
loop-count-preserved g c =
    let one = lends_one c.next.new.self.step (c.in_ok-next.ensures.lends.0 ∙ c.if-not-branch.false) in
    let kept = c.next.ensures.reads.call.same_kind ∙ c.loop-count.invariant.going.same_kind in
    let calm = c.next.ensures.reads.call.cause.steady (no_fault c.next.result _ FolderFault c.in_ok-next.was) ∙ c.loop-count.invariant.going.faults in
    let more = going_on g.F.Source.outside g.met.F.Source.sane c.args.folder.now c.loop-count.folder c.next.new.folder c.args.reader.now c.loop-count.reader c.next.new.self _ _ c.loop-count.count c.loop-count.invariant.going (c.next.result ≡ Err FolderFault) c.next.ensures.reads c.next.result c.next.ensures.means c.args.most c.loop-count-test.true one.0 (c.in_ok-next.was ∙ ap (λ (b : Bool). Ok b) c.if-not-branch.false) one.1
    c.lay_next.new.folder _ (c.in_ok-next.ensures.lends.1 ∙ c.if-not-branch.false) (c.in_ok-lay_next.ensures.counted one.0 one.1)
    (c.lay_next.ensures.same_kind ∙ kept) (c.lay_next.ensures.cause.steady (no_fault c.lay_next.result _ FolderFault c.in_ok-lay_next.was) ∙ calm) c.lay_next.ensures.changes
    (λ told. let laid = c.in_ok-lay_next.ensures.done (kept ∙ told) one.0 one.1 in (laid.0, laid.1, c.lay_next.ensures.any_moment (kept ∙ told) one.0 one.1))
    in
    record { going = more; few = omega (arith, c.loop-count-test.true); known = λ told. c.in_ok-lay_next.ensures.known (sym c.lay_next.ensures.same_kind ∙ told) }

pub returns-clause-applied : goal.returns-clause-applied
returns-clause-applied g c =
    ends_full g.F.Source.outside c.args.most c.args.folder.now c.loop-count.folder c.args.reader.now c.loop-count.reader _ _ c.loop-count.count c.loop-count.invariant.going (omega (arith, c.loop-count.invariant.few))
