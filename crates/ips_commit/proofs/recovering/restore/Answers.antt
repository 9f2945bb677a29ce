use Rattle.std.proofs.Common.{◌≡◌, ◌≢◌, inl, Bool, true, false, Ok, Err, List, None, refl, sym, ◌∙◌, ap, subst, arith}
use Rattle.ips_text.specs.Kept.{Kept}
use Rattle.ips_text.specs.declared.refusal.Or.TheVariants.{Bad}
use Rattle.ips_outside.specs.State.{State}
use Rattle.ips_folder.proofs.Runs.{joins, one_read}
use Rattle.ips_outside.proofs.Faults.{cause_behind, rose_since}
use Rattle.ips_outside.proofs.Reading.{answered}
use Rattle.ips_outside.specs.Children.{path_bytes}
use Rattle.ips_steps.specs.Owed.{IsOpen, FolderOwes, steps_left}
use Rattle.ips_steps.specs.Steps.{after}
use Rattle.ips_steps.specs.Private.{gate_name, visible}
use Rattle.ips_journal.specs.Text.{journal_text}
use Rattle.ips_kinds.specs.Tallies.{seen_by}
use Rattle.ips_commit.specs.declared.fault.CommitFault.TheVariants as fault
use Rattle.ips_commit.specs.Pending.{AreMarkNames, HasCommitted, IsSwept, is_swept}
use Rattle.ips_commit.specs.Recovering.{IsPlaced, IsJournalled, IsUnfinished, CanRollForward, SaysOfFinding, SaysOfRecovery, SaysOfLaying}
use Rattle.ips_contents.proofs.AllWritten.{as_bad}
use Rattle.ips_rehearse.proofs.Passing.{pass_call}
use Rattle.ips_commit.proofs.Swept.{opened_behind}
use Rattle.ips_commit.proofs.Rolled.{still_owed, still_clean, swept_keeps, swept_owed, swept_done, found_open, found_shut, says_rolled, never_refused, says_only_read, if_starved, read_cause, never_begun, roll_cause, never_found, calm_cause, no_answer}
use Rattle.ips_commit.proofs.recovering.restore.Goals as goal

-- nothing was found out, and nothing done
pub returns-in-Err-clause-recovers : goal.returns-in-Err-clause-recovers
returns-in-Err-clause-recovers g c =
    let o = g.F.Source.outside in
    let sane = g.met.F.Source.sane in
    let old = c.args.folder.now in
    let mid = c.find_left.new.folder in
    let reads = c.find_left.ensures.reads in record {
      owed = λ told b a due owes. still_owed o sane old mid _ reads b a due owes;
      closed = λ told shut. one_read o sane is_swept is_swept old mid _ reads;
      opened = λ told shut. tt;
      forward = λ told. tt;
      done = λ told gate. tt;
      cleared = λ told shut. tt;
      meant = λ told steps count a is_open. (tt, never_found Bool (Unit {0}) (o.state old).held c.in-Err.fault steps count a is_open (c.in-Err.ensures.refused told));
      refused = λ told.
          as_bad Bool c.in-Err.fault (SaysOfFinding (o.state old).held) (SaysOfRecovery (o.state old) (o.state mid) _ _)
          (λ why says. says_only_read (o.state old) (o.state mid) _ _ why reads.kept says) (c.in-Err.ensures.refused told);
      starved = if_starved Bool c.in-Err.fault _ (reads.kept, reads.none_made, refl);
      read_first = λ told none gate. (reads.kept, reads.none_made, refl);
      cause = read_cause c.in-Err.fault c.find_left.result c.in-Err.is (Err c.in-Err.fault) refl (o.faults old) (o.faults mid) c.in-Err.ensures.unbegun reads.call.cause;
      same_kind = reads.call.same_kind;
      changes = omega (arith, reads.none_made);
      changed = λ is. absurd (never_begun {T = Bool} c.in-Err.fault c.find_left.result c.in-Err.is (Err c.in-Err.fault) refl c.in-Err.ensures.unbegun is);
      untouched = λ told gate is. reads.none_made;
      unlaid = λ is. refl;
      uncounted = λ told shut. refl;
      stopped = λ told steps count is.
          as_bad Bool c.in-Err.fault (λ why. why ≡ fault.Unfinished → ⊥) _ (λ why never unfinished. absurd (never unfinished)) c.in-Err.ensures.unbegun;
    }

-- what was left couldn't be swept
pub returns-in_default-clause-recovers : goal.returns-in_default-clause-recovers
returns-in_default-clause-recovers g c =
    let o = g.F.Source.outside in
    let sane = g.met.F.Source.sane in
    let old = c.args.folder.now in
    let mid = c.find_left.new.folder in
    let new = c.clear_left.new.folder in
    let reads = c.find_left.ensures.reads in record {
      owed = λ told b a due owes.
          swept_owed o sane old mid _ reads new (found_shut c.in-Ok.left.is_open (o.state old).held (c.in-Ok.ensures.gate told) c.if-is_open.false)
          (c.clear_left.ensures.any_moment (reads.call.same_kind ∙ told)) (c.requires.safe told) b a due owes;
      closed = λ told shut. swept_keeps o sane old mid _ reads new shut (c.clear_left.ensures.any_moment (reads.call.same_kind ∙ told));
      opened = λ told shut. tt;
      forward = λ told. tt;
      done = λ told gate. tt;
      cleared = λ told shut. tt;
      meant = λ told steps count a is_open. (tt, tt);
      refused = λ told gate. absurd (gate (found_shut c.in-Ok.left.is_open (o.state old).held (c.in-Ok.ensures.gate told) c.if-is_open.false));
      starved = tt;
      read_first = λ told none gate. absurd (gate (found_shut c.in-Ok.left.is_open (o.state old).held (c.in-Ok.ensures.gate told) c.if-is_open.false));
      cause = cause_behind (o.faults old) (o.faults mid) (o.faults new) _ _ _ reads.call.cause (λ failed. let bad = sym c.in-Ok.is ∙ failed in cc)
          c.in_default.ensures.cause (λ failed. inl refl) (λ is. refl);
      same_kind = c.clear_left.ensures.same_kind ∙ reads.call.same_kind;
      changes = omega (arith, reads.none_made, c.clear_left.ensures.changes);
      changed = λ is. cc;
      untouched = λ told gate. absurd (gate (found_shut c.in-Ok.left.is_open (o.state old).held (c.in-Ok.ensures.gate told) c.if-is_open.false));
      unlaid = λ is. refl;
      uncounted = λ told shut. refl;
      stopped = λ told steps count is unfinished. cc;
    }

-- what was left is swept
pub returns-clause-recovers : goal.returns-clause-recovers
returns-clause-recovers g c =
    let o = g.F.Source.outside in
    let sane = g.met.F.Source.sane in
    let old = c.args.folder.now in
    let mid = c.find_left.new.folder in
    let new = c.clear_left.new.folder in
    let reads = c.find_left.ensures.reads in record {
      owed = λ told b a due owes.
          swept_owed o sane old mid _ reads new (found_shut c.in-Ok.left.is_open (o.state old).held (c.in-Ok.ensures.gate told) c.if-is_open.false)
          (c.clear_left.ensures.any_moment (reads.call.same_kind ∙ told)) (c.requires.safe told) b a due owes;
      closed = λ told shut. swept_keeps o sane old mid _ reads new shut (c.clear_left.ensures.any_moment (reads.call.same_kind ∙ told));
      opened = λ told shut. opened_behind o old mid new (pass_call o old mid _ reads.call) (ap (λ (s : State). s.held) reads.kept) (c.in-Ok-clear_left.ensures.opened (reads.call.same_kind ∙ told));
      forward = λ told. sym c.if-is_open.false ∙ c.in-Ok.ensures.gate told;
      done = λ told gate. absurd (gate (found_shut c.in-Ok.left.is_open (o.state old).held (c.in-Ok.ensures.gate told) c.if-is_open.false));
      cleared = λ told shut.
          let told_1 = reads.call.same_kind ∙ told in
          swept_done o sane old mid _ reads new shut (c.clear_left.ensures.any_moment told_1) (c.clear_left.ensures.same_kind ∙ told_1)
          (path_bytes c.in-Ok.left.marks.items) (c.in-Ok.ensures.marks told).others
          (subst (λ (l : List Kept). IsSwept (path_bytes l) (o.state mid).held (o.state new).held) c.deref-2.ensures.value (c.in-Ok-clear_left.ensures.swept told_1)) (c.in-Ok-clear_left.ensures.safe told_1);
      meant = λ told steps count a is_open.
          absurd (is_open.gate (found_shut c.in-Ok.left.is_open (o.state old).held (c.in-Ok.ensures.gate told) c.if-is_open.false));
      refused = λ told. tt;
      starved = tt;
      read_first = λ told none gate. absurd (gate (found_shut c.in-Ok.left.is_open (o.state old).held (c.in-Ok.ensures.gate told) c.if-is_open.false));
      cause = calm_cause (o.faults old) (o.faults mid) (o.faults new) _ _ _ reads.call.cause (λ failed. let bad = sym c.in-Ok.is ∙ failed in cc)
          c.clear_left.ensures.cause (answered c.clear_left.result _ c.in-Ok-clear_left.is) (no_answer (Ok false) false refl);
      same_kind = c.clear_left.ensures.same_kind ∙ reads.call.same_kind;
      changes = omega (arith, reads.none_made, c.clear_left.ensures.changes);
      changed = λ is. cc;
      untouched = λ told gate is. cc;
      unlaid = λ is. refl;
      uncounted = λ told shut. refl;
      stopped = λ told steps count is. tt;
    }

-- ---- rolled forward

pub roll_forward-requires-clause-safe : goal.roll_forward-requires-clause-safe
roll_forward-requires-clause-safe g c = λ told_now.
    still_clean g.F.Source.outside g.met.F.Source.sane c.args.folder.now c.find_left.new.folder _ c.find_left.ensures.reads (c.requires.safe (sym c.find_left.ensures.reads.call.same_kind ∙ told_now))

pub roll_forward-requires-clause-gate : goal.roll_forward-requires-clause-gate
roll_forward-requires-clause-gate g c = λ told_now.
    let told = sym c.find_left.ensures.reads.call.same_kind ∙ told_now in
    subst (λ (s : State). s.held.look gate_name ≢ None) (sym c.find_left.ensures.reads.kept) (found_open c.in-Ok.left.is_open (g.F.Source.outside.state c.args.folder.now).held (c.in-Ok.ensures.gate told) c.if-is_open.true)

pub roll_forward-requires-clause-marks : goal.roll_forward-requires-clause-marks
roll_forward-requires-clause-marks g c = λ told_now.
    let told = sym c.find_left.ensures.reads.call.same_kind ∙ told_now in
    subst (λ (l : List Kept). AreMarkNames (g.F.Source.outside.state c.find_left.new.folder).held (path_bytes l)) (sym c.deref.ensures.value)
    (subst (λ (s : State). AreMarkNames s.held (path_bytes c.in-Ok.left.marks.items)) (sym c.find_left.ensures.reads.kept) (c.in-Ok.ensures.marks told))

pub roll_forward-requires-clause-placed : goal.roll_forward-requires-clause-placed
roll_forward-requires-clause-placed g c = λ told_now.
    let told = sym c.find_left.ensures.reads.call.same_kind ∙ told_now in
    subst (λ (s : State). IsPlaced s.held c.find_left.new.reader c.in-Ok.left.count) (sym c.find_left.ensures.reads.kept) (c.in-Ok.ensures.placed told c.if-is_open.true)

-- the steps are laid
pub returns-in-Ok-roll_forward-clause-recovers : goal.returns-in-Ok-roll_forward-clause-recovers
returns-in-Ok-roll_forward-clause-recovers g c =
    let o = g.F.Source.outside in
    let sane = g.met.F.Source.sane in
    let old = c.args.folder.now in
    let mid = c.find_left.new.folder in
    let new = c.roll_forward.new.folder in
    let reads = c.find_left.ensures.reads in
    let kept = reads.kept in record {
      owed = λ told b a due owes.
          joins o old mid new (FolderOwes journal_text b a due) (still_owed o sane old mid _ reads b a due owes)
          (c.roll_forward.ensures.owed (reads.call.same_kind ∙ told) b a due (subst (FolderOwes journal_text b a due) (sym kept) owes));
      closed = λ told shut. absurd (found_open c.in-Ok.left.is_open (o.state old).held (c.in-Ok.ensures.gate told) c.if-is_open.true shut);
      opened = λ told shut. absurd (found_open c.in-Ok.left.is_open (o.state old).held (c.in-Ok.ensures.gate told) c.if-is_open.true shut);
      forward = λ told. sym c.if-is_open.true ∙ c.in-Ok.ensures.gate told;
      done = λ told gate.
          let all = c.in-Ok-roll_forward.ensures.done (reads.call.same_kind ∙ told) in (
            all.0,
            all.1,
            subst (λ (s : State). CanRollForward s.held all.0 all.1) kept all.2,
            subst (λ (s : State). HasCommitted (visible (after (steps_left all.1 all.0) s.held)) (o.state new)) kept all.3,
            all.4,
          );
      cleared = λ told shut. absurd (found_open c.in-Ok.left.is_open (o.state old).held (c.in-Ok.ensures.gate told) c.if-is_open.true shut);
      meant = λ told steps count a is_open.
          ((c.in-Ok-roll_forward.ensures.meant (reads.call.same_kind ∙ told) steps count a (subst (λ (s : State). IsOpen journal_text steps count a s.held) (sym kept) is_open)).0, tt);
      refused = λ told. tt;
      starved = tt;
      read_first = λ told none gate. let placed = c.in-Ok.ensures.placed told c.if-is_open.true in absurd (none placed.steps placed.is.lists placed.is.text_is);
      cause = calm_cause (o.faults old) (o.faults mid) (o.faults new) _ _ _ reads.call.cause (λ failed. let bad = sym c.in-Ok.is ∙ failed in cc)
          c.roll_forward.ensures.cause (λ failed. let bad = sym c.in-Ok-roll_forward.is ∙ failed in cc) (no_answer (Ok true) true refl);
      same_kind = c.roll_forward.ensures.same_kind ∙ reads.call.same_kind;
      changes = omega (arith, reads.none_made, c.roll_forward.ensures.changes);
      changed = λ is. cc;
      untouched = λ told gate is. cc;
      unlaid = λ is. cc;
      uncounted = λ told shut. absurd (found_open c.in-Ok.left.is_open (o.state old).held (c.in-Ok.ensures.gate told) c.if-is_open.true shut);
      stopped = λ told steps count is. tt;
    }

-- they aren't
pub returns-in-Err-roll_forward-clause-recovers : goal.returns-in-Err-roll_forward-clause-recovers
returns-in-Err-roll_forward-clause-recovers g c =
    let o = g.F.Source.outside in
    let sane = g.met.F.Source.sane in
    let old = c.args.folder.now in
    let mid = c.find_left.new.folder in
    let new = c.roll_forward.new.folder in
    let reads = c.find_left.ensures.reads in
    let kept = reads.kept in
    let why = c.in-Err-roll_forward.fault in
    let before = seen_by (λ k. (goal.Kind-dyn g (k.vtable, k.value)).sorts k.value) (λ k. (goal.Kind-dyn g (k.vtable, k.value)).finished k.value) c.args.kinds.now.items in
    let after_it = seen_by (λ k. (goal.Kind-dyn g (k.vtable, k.value)).sorts k.value) (λ k. (goal.Kind-dyn g (k.vtable, k.value)).finished k.value) c.roll_forward.new.kinds.items in record {
      owed = λ told b a due owes.
          joins o old mid new (FolderOwes journal_text b a due) (still_owed o sane old mid _ reads b a due owes)
          (c.roll_forward.ensures.owed (reads.call.same_kind ∙ told) b a due (subst (FolderOwes journal_text b a due) (sym kept) owes));
      closed = λ told shut. absurd (found_open c.in-Ok.left.is_open (o.state old).held (c.in-Ok.ensures.gate told) c.if-is_open.true shut);
      opened = λ told shut. absurd (found_open c.in-Ok.left.is_open (o.state old).held (c.in-Ok.ensures.gate told) c.if-is_open.true shut);
      forward = λ told. tt;
      done = λ told gate. tt;
      cleared = λ told shut. tt;
      meant = λ told steps count a is_open. (
        tt,
        never_refused why ⊥ Bool
            (c.in-Err-roll_forward.ensures.meant (reads.call.same_kind ∙ told) steps count a (subst (λ (s : State). IsOpen journal_text steps count a s.held) (sym kept) is_open)).1,
      );
      refused = λ told.
          let placed = c.in-Ok.ensures.placed told c.if-is_open.true in
          says_rolled (o.state old) (o.state new) before after_it placed.steps c.in-Ok.left.count placed.is
          (found_open c.in-Ok.left.is_open (o.state old).held (c.in-Ok.ensures.gate told) c.if-is_open.true) why
          (subst (λ (s : State). SaysOfLaying s.held (o.state new).held before after_it why) kept (c.in-Err-roll_forward.ensures.refused (reads.call.same_kind ∙ told)));
      starved = tt;
      read_first = λ told none gate. let placed = c.in-Ok.ensures.placed told c.if-is_open.true in absurd (none placed.steps placed.is.lists placed.is.text_is);
      cause = roll_cause why c.roll_forward.result c.in-Err-roll_forward.is (Err (Bad why)) refl (o.faults old) (o.faults mid) (o.faults new)
          (reads.call.cause.steady (λ failed. let bad = sym c.in-Ok.is ∙ failed in cc)) c.in-Err-roll_forward.ensures.begun c.roll_forward.ensures.cause;
      same_kind = c.roll_forward.ensures.same_kind ∙ reads.call.same_kind;
      changes = omega (arith, reads.none_made, c.roll_forward.ensures.changes);
      changed = λ is. rose_since (o.changes old) (o.changes mid) (o.changes new) (omega (arith, reads.none_made)) c.roll_forward.ensures.changed;
      untouched = λ told gate is. let same : why ≡ fault.Unchanged = cc in absurd (c.in-Err-roll_forward.ensures.begun same);
      unlaid = λ is. let same : why ≡ fault.Unchanged = cc in absurd (c.in-Err-roll_forward.ensures.begun same);
      uncounted = λ told shut. absurd (found_open c.in-Ok.left.is_open (o.state old).held (c.in-Ok.ensures.gate told) c.if-is_open.true shut);
      stopped = λ told steps count is unfinished.
          subst (λ (s : State). IsUnfinished s.held (o.state new) steps count before after_it) kept
          (c.in-Err-roll_forward.ensures.stopped (reads.call.same_kind ∙ told) steps count (subst (λ (s : State). IsJournalled s.held steps count) (sym kept) is) unfinished);
    }
