use Rattle.std.proofs.Common.{length, map, inl, inr, refl, ◌∙◌, sym, [], arith}
use Rattle.ips_text.proofs.Ancestry.{covers-self}
use Rattle.ips_outside.proofs.Faults.{rose_since, cause_behind, cause_before}
use Rattle.ips_outside.proofs.Moments.{within_then}
use Rattle.ips_outside.proofs.Reading.{answered}
use Rattle.ips_outside.specs.State.{ChangedWithin, settled}
use Rattle.ips_folder.proofs.Runs.{keeps_then, started}
use Rattle.ips_steps.specs.Private.{journal_name}
use Rattle.ips_steps.specs.View.{step_of}
use Rattle.ips_contents.proofs.Tried.{rehearsed_within}
use Rattle.ips_commit.specs.Pending.{IsBehindGate, is_swept}
use Rattle.ips_contents.proofs.Written.{own_modes}
use Rattle.ips_commit.proofs.Staged.{standing_swept, records_swept, behind_then, filled_swept, cleared_by}
use Rattle.ips_commit.proofs.Unready.{no_journal, still_none, leaves_nothing, starved_of}
use Rattle.ips_commit.proofs.Masked.{told_own, told_other, reads_with}
use Rattle.ips_commit.proofs.staging.write_stage.Goals as goal

pub fill-requires-clause-counted : goal.fill-requires-clause-counted
fill-requires-clause-counted g c = λ told_now. c.requires.counted (sym c.settle.ensures.same_kind ∙ told_now)

pub fill-requires-clause-records : goal.fill-requires-clause-records
fill-requires-clause-records g c = λ told_now.
    let o = g.F.Source.outside in
    let told = sym c.settle.ensures.same_kind ∙ told_now in
    records_swept (o.state c.args.folder.now).held (o.state c.settle.new.folder).held (own_modes is_swept _ _ (c.in-Ok.ensures.within told).agrees) (c.requires.records told)

pub fill-requires-clause-standing : goal.fill-requires-clause-standing
fill-requires-clause-standing g c = λ told_now.
    let o = g.F.Source.outside in
    let told = sym c.settle.ensures.same_kind ∙ told_now in
    standing_swept (o.state c.args.folder.now).held (o.state c.settle.new.folder).held (own_modes is_swept _ _ (c.in-Ok.ensures.within told).agrees) c.args.staged.now c.requires.seen (c.requires.standing told)

pub returns-in-Err-OutOfMemory-clause-swept : goal.returns-in-Err-OutOfMemory-clause-swept
returns-in-Err-OutOfMemory-clause-swept g c = λ told. inr (starved_of (Unit {0}) c.in-Err-OutOfMemory.field-0 _ c.in-Err-OutOfMemory.field-0-is (c.in-Err-OutOfMemory.ensures.starved told))

-- it is staged

pub returns-in_default-clause-any_moment : goal.returns-in_default-clause-any_moment
returns-in_default-clause-any_moment g c = λ told.
    behind_then g.F.Source.outside g.met.F.Source.sane c.args.folder.now c.settle.new.folder c.fill.new.folder (c.settle.ensures.any_moment told) (c.in-Ok.ensures.within told)
    (c.fill.ensures.any_moment (c.settle.ensures.same_kind ∙ told))

pub returns-in_default-clause-within : goal.returns-in_default-clause-within
returns-in_default-clause-within g c = λ told.
    let o = g.F.Source.outside in
    within_then is_swept is_swept (settled (o.state c.args.folder.now)) (o.state c.settle.new.folder) (o.state c.fill.new.folder)
    (c.in-Ok.ensures.within told)
    (c.fill.ensures.any_moment (c.settle.ensures.same_kind ∙ told)).now

pub returns-in_default-clause-filled : goal.returns-in_default-clause-filled
returns-in_default-clause-filled g c = λ told.
    let o = g.F.Source.outside in
    filled_swept (g.S.Source.outside.tells c.args.source.now) (g.S.Source.outside.state c.args.source.now).held c.args.publisher.now (map step_of c.args.steps.now) c.args.staged.now
    (o.state c.args.folder.now).held (o.state c.settle.new.folder).held (o.state c.fill.new.folder) (own_modes is_swept _ _ (c.in-Ok.ensures.within told).agrees) c.requires.seen
    (c.in_default.ensures.filled (c.settle.ensures.same_kind ∙ told))

pub returns-in_default-clause-rehearsed : goal.returns-in_default-clause-rehearsed
returns-in_default-clause-rehearsed g c = λ told.
    let o = g.F.Source.outside in
    let old = c.args.folder.now in
    let mid = c.settle.new.folder in
    let new = c.fill.new.folder in
    let told_1 = c.settle.ensures.same_kind ∙ told in
    let within = c.in-Ok.ensures.within told in
    rehearsed_within o (ChangedWithin is_swept is_swept (o.state mid)) (IsBehindGate (o.state old)) c.args.steps.now (length c.args.staged.now) old mid new new (c.settle.ensures.any_moment told)
    (λ s w. inr (within_then is_swept is_swept (settled (o.state old)) (o.state mid) s within w))
    (started o new (IsBehindGate (o.state old)) (g.met.F.Source.sane.only_now new) (inr (within_then is_swept is_swept (settled (o.state old)) (o.state mid) (o.state new) within (c.fill.ensures.any_moment told_1).now)))
    (c.in_default.ensures.rehearsed told_1)

-- it is refused, and what was staged is taken away

pub returns-in-Ok-sweep_left-clause-any_moment : goal.returns-in-Ok-sweep_left-clause-any_moment
returns-in-Ok-sweep_left-clause-any_moment g c = λ told.
    let o = g.F.Source.outside in
    let told_1 = c.settle.ensures.same_kind ∙ told in
    let told_2 = c.fill.ensures.stages.same_kind ∙ told_1 in
    behind_then o g.met.F.Source.sane c.args.folder.now c.settle.new.folder c.sweep_left.new.folder (c.settle.ensures.any_moment told) (c.in-Ok.ensures.within told)
    (keeps_then o is_swept is_swept c.settle.new.folder c.fill.new.folder c.sweep_left.new.folder (c.fill.ensures.any_moment told_1)
    (c.sweep_left.ensures.any_moment told_2))

pub returns-in-Ok-sweep_left-clause-unready : goal.returns-in-Ok-sweep_left-clause-unready
returns-in-Ok-sweep_left-clause-unready g c = λ told.
    let told_2 = c.fill.ensures.stages.same_kind ∙ c.settle.ensures.same_kind ∙ told in
    inl (no_journal (g.F.Source.outside.state c.sweep_left.new.folder) ((c.in-Ok-sweep_left.ensures.swept told_2).journal journal_name (covers-self journal_name)))

pub returns-in-Ok-sweep_left-clause-swept : goal.returns-in-Ok-sweep_left-clause-swept
returns-in-Ok-sweep_left-clause-swept g c = λ told.
    let o = g.F.Source.outside in
    let told_1 = c.settle.ensures.same_kind ∙ told in
    leaves_nothing _ _ c.in-Err.fault
    (cleared_by [] (o.state c.fill.new.folder).held (o.state c.sweep_left.new.folder).held (c.fill.ensures.unmarked told_1) (c.in-Ok-sweep_left.ensures.swept (c.fill.ensures.stages.same_kind ∙ told_1)))

pub returns-in-Ok-sweep_left-clause-stages : goal.returns-in-Ok-sweep_left-clause-stages
returns-in-Ok-sweep_left-clause-stages g c =
    let said = c.in-Err.ensures.stages in
    record {
      intact = λ told. tt;
      refused = said.refused;
      reads = reads_with g.S.Source.outside _ _ _ _ said.reads (told_own _ _ _ _ said.reads.call.cause);
      cause = cause_before _ _ _ _ _ _ (cause_behind _ _ _ _ _ _ c.in-Ok.ensures.cause (λ bad. bad) said.cause (λ is. is) (λ is. is)) c.sweep_left.ensures.cause (answered c.sweep_left.result _ c.in-Ok-sweep_left.is) (λ is. is) (λ is. is);
      same_kind = c.sweep_left.ensures.same_kind ∙ said.same_kind ∙ c.settle.ensures.same_kind;
      changes = omega (arith, c.settle.ensures.changes, said.changes, c.sweep_left.ensures.changes);
    }

-- or that failed

pub returns-in-Err-sweep_left-clause-any_moment : goal.returns-in-Err-sweep_left-clause-any_moment
returns-in-Err-sweep_left-clause-any_moment g c = λ told.
    let o = g.F.Source.outside in
    let told_1 = c.settle.ensures.same_kind ∙ told in
    let told_2 = c.fill.ensures.stages.same_kind ∙ told_1 in
    behind_then o g.met.F.Source.sane c.args.folder.now c.settle.new.folder c.sweep_left.new.folder (c.settle.ensures.any_moment told) (c.in-Ok.ensures.within told)
    (keeps_then o is_swept is_swept c.settle.new.folder c.fill.new.folder c.sweep_left.new.folder (c.fill.ensures.any_moment told_1)
    (c.sweep_left.ensures.any_moment told_2))

pub returns-in-Err-sweep_left-clause-unready : goal.returns-in-Err-sweep_left-clause-unready
returns-in-Err-sweep_left-clause-unready g c = λ told.
    let o = g.F.Source.outside in
    let told_1 = c.settle.ensures.same_kind ∙ told in
    inl (still_none (o.state c.fill.new.folder) (o.state c.sweep_left.new.folder) (c.in-Err.ensures.unready told_1) (c.in-Err-sweep_left.ensures.unready (c.fill.ensures.stages.same_kind ∙ told_1)))

pub returns-in-Err-sweep_left-clause-stages : goal.returns-in-Err-sweep_left-clause-stages
returns-in-Err-sweep_left-clause-stages g c =
    let said = c.in-Err.ensures.stages in
    record {
      intact = λ told. tt;
      refused = tt;
      reads = reads_with g.S.Source.outside _ _ _ _ said.reads (told_other _ _ _ _ said.reads.call.cause.later (λ is. cc) refl);
      cause = record {
        later = omega (arith, c.settle.ensures.cause.later, said.cause.later, c.sweep_left.ensures.cause.later);
        rose = λ is. rose_since _ _ _ (omega (arith, c.settle.ensures.cause.later, said.cause.later)) (c.in-Err-sweep_left.ensures.cause.rose refl);
        steady = λ none. absurd (none refl);
      };
      same_kind = c.sweep_left.ensures.same_kind ∙ said.same_kind ∙ c.settle.ensures.same_kind;
      changes = omega (arith, c.settle.ensures.changes, said.changes, c.sweep_left.ensures.changes);
    }
