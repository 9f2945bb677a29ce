use Rattle.std.proofs.Common.{inl, inr, true, [], refl, sym, ◌∙◌, subst, arith}
use Rattle.ips_outside.specs.Image.{Image}
use Rattle.ips_outside.proofs.Faults.{cause_as, cause_behind, rose_later}
use Rattle.ips_outside.proofs.Reading.{answered}
use Rattle.ips_commit.specs.Pending.{HasCommitted}
use Rattle.ips_commit.proofs.Committed.{opened_way, opening, is_open, none_laid_yet, laid_since, owed_since, due_since, is_journalled}
use Rattle.ips_commit.proofs.Owing.{gate_left}
use Rattle.ips_commit.proofs.Staged.{rose_of}
use Rattle.ips_commit.proofs.Rolled.{calm_cause}
use Rattle.ips_commit.proofs.committing.run.Goals as goal

pub roll-requires-clause-open : goal.roll-requires-clause-open
roll-requires-clause-open g c = (c.rewind.ensures.start []).0

pub roll-requires-clause-way : goal.roll-requires-clause-way
roll-requires-clause-way g c = λ told_now.
    let told = sym c.open.ensures.same_kind ∙ told_now in
    opened_way g.F.Source.outside c.args.folder.now c.open.new.folder (c.requires.unmarked told) (c.open.ensures.any_moment told) (c.in-Ok.ensures.opened told) (c.in-Ok.ensures.safe told)

pub roll-requires-clause-at : goal.roll-requires-clause-at
roll-requires-clause-at g c = λ told_now. ([], c.rewind.ensures.start _)

-- the gate wasn't opened
pub returns-in_default-clause-commits : goal.returns-in_default-clause-commits
returns-in_default-clause-commits g c =
    let o = g.F.Source.outside in
    let sane = g.met.F.Source.sane in
    let old = c.args.folder.now in
    let mid = c.open.new.folder in record {
      owed = λ told steps a staged. opening o sane steps a old told staged mid (c.open.ensures.any_moment told);
      due = λ told steps a staged. inl (c.in_default.ensures.not_yet told);
      done = λ told steps a staged. tt;
      counted = λ told steps a staged. tt;
      journal = λ told steps a staged. tt;
      stopped = λ told steps a staged. (
        0,
        none_laid_yet o sane steps a old told staged mid (c.open.ensures.any_moment told) _,
        λ some less. absurd (omega (arith, some)),
        λ x may. inr (0, gate_left o sane old mid 0 (c.open.ensures.any_moment told) staged.safe staged.ready.marked x may, omega arith),
      );
      faults = λ told steps a staged. refl;
      begun = λ is. cc;
      cause = cause_as _ _ _ _ c.in_default.ensures.cause (λ failed. refl) (λ is. refl);
      same_kind = c.open.ensures.same_kind;
      changes = c.open.ensures.changes;
      changed = rose_of _ _ c.open.ensures.changed;
    }

-- the steps are laid
pub returns-in-Ok-roll-clause-commits : goal.returns-in-Ok-roll-clause-commits
returns-in-Ok-roll-clause-commits g c =
    let o = g.F.Source.outside in
    let sane = g.met.F.Source.sane in
    let old = c.args.folder.now in
    let mid = c.open.new.folder in
    let kind = c.open.ensures.same_kind in record {
      owed = λ told steps a staged.
          let run = c.open.ensures.any_moment told in
          let opens = c.in-Ok.ensures.opened told in
          let clean = c.in-Ok.ensures.safe told in
          owed_since o sane steps a old told staged mid kind run opens clean c.roll.new.folder
          (c.roll.ensures.owed (kind ∙ told) steps _ a _ (is_open o sane steps a old told staged mid kind run opens clean) (c.rewind.ensures.start _));
      due = λ told steps a staged.
          let run = c.open.ensures.any_moment told in
          let opens = c.in-Ok.ensures.opened told in
          let clean = c.in-Ok.ensures.safe told in
          due_since o sane steps a old told staged mid kind run opens clean c.roll.new.folder
          (c.roll.ensures.owed (kind ∙ told) steps _ a _ (is_open o sane steps a old told staged mid kind run opens clean) (c.rewind.ensures.start _));
      done = λ told steps a staged.
          let run = c.open.ensures.any_moment told in
          let opens = c.in-Ok.ensures.opened told in
          let clean = c.in-Ok.ensures.safe told in
          let here = is_open o sane steps a old told staged mid kind run opens clean in
          let done = c.in-Ok-roll.ensures.done (kind ∙ told) steps (is_journalled o sane steps a old told staged mid kind run opens clean) (c.rewind.ensures.start _) in
          (done.0, subst (λ (x : Image). HasCommitted x (o.state c.roll.new.folder)) here.ready.means done.2);
      counted = λ told steps a staged.
          (c.in-Ok-roll.ensures.done (kind ∙ told) steps (is_journalled o sane steps a old told staged mid kind (c.open.ensures.any_moment told) (c.in-Ok.ensures.opened told) (c.in-Ok.ensures.safe told)) (c.rewind.ensures.start _)).3;
      journal = λ told steps a staged.
          let run = c.open.ensures.any_moment told in
          let opens = c.in-Ok.ensures.opened told in
          let clean = c.in-Ok.ensures.safe told in record {
            opened = mid;
            is_open = opens.is_open;
            journal = is_journalled o sane steps a old told staged mid kind run opens clean;
            since = run.moments.later;
            until = (c.roll.ensures.owed (kind ∙ told) steps a a true (is_open o sane steps a old told staged mid kind run opens clean) (c.rewind.ensures.start _)).later;
          };
      stopped = λ told steps a staged. tt;
      faults = λ told steps a staged. tt;
      begun = tt;
      cause = calm_cause (o.faults old) (o.faults mid) (o.faults c.roll.new.folder) _ _ _ c.open.ensures.cause (answered c.open.result _ c.in-Ok.is)
          c.roll.ensures.cause (λ failed. let bad = sym c.in-Ok-roll.is ∙ failed in cc) (λ is. cc);
      same_kind = c.roll.ensures.same_kind ∙ kind;
      changes = omega (arith, c.open.ensures.changes, c.roll.ensures.changes);
      changed = rose_later _ _ _ (rose_of _ _ c.open.ensures.changed) c.roll.ensures.changes;
    }

-- they aren't
pub returns-in-Err-clause-commits : goal.returns-in-Err-clause-commits
returns-in-Err-clause-commits g c =
    let o = g.F.Source.outside in
    let sane = g.met.F.Source.sane in
    let old = c.args.folder.now in
    let mid = c.open.new.folder in
    let kind = c.open.ensures.same_kind in record {
      owed = λ told steps a staged.
          let run = c.open.ensures.any_moment told in
          let opens = c.in-Ok.ensures.opened told in
          let clean = c.in-Ok.ensures.safe told in
          owed_since o sane steps a old told staged mid kind run opens clean c.roll.new.folder
          (c.roll.ensures.owed (kind ∙ told) steps _ a _ (is_open o sane steps a old told staged mid kind run opens clean) (c.rewind.ensures.start _));
      due = λ told steps a staged.
          let run = c.open.ensures.any_moment told in
          let opens = c.in-Ok.ensures.opened told in
          let clean = c.in-Ok.ensures.safe told in
          due_since o sane steps a old told staged mid kind run opens clean c.roll.new.folder
          (c.roll.ensures.owed (kind ∙ told) steps _ a _ (is_open o sane steps a old told staged mid kind run opens clean) (c.rewind.ensures.start _));
      done = λ told steps a staged. tt;
      counted = λ told steps a staged. tt;
      journal = λ told steps a staged. tt;
      stopped = λ told steps a staged.
          let run = c.open.ensures.any_moment told in
          let opens = c.in-Ok.ensures.opened told in
          let clean = c.in-Ok.ensures.safe told in
          let here = is_open o sane steps a old told staged mid kind run opens clean in
          let begins = c.rewind.ensures.start _ in
          let found = c.in-Err.ensures.stopped (kind ∙ told) steps (is_journalled o sane steps a old told staged mid kind run opens clean) begins (c.in-Err.ensures.meant (kind ∙ told) steps a here begins) in
          (found.laid, laid_since o sane steps a old told staged mid kind run opens clean found.laid (o.state c.roll.new.folder).held _ _ found.are, (λ some less. found.gate less), found.resumes a here);
      faults = λ told steps a staged.
          c.in-Err.ensures.meant (kind ∙ told) steps a (is_open o sane steps a old told staged mid kind (c.open.ensures.any_moment told) (c.in-Ok.ensures.opened told) (c.in-Ok.ensures.safe told)) (c.rewind.ensures.start _);
      begun = c.in-Err.ensures.begun;
      cause = cause_behind (o.faults old) (o.faults mid) (o.faults c.roll.new.folder) _ _ _ c.open.ensures.cause (answered c.open.result _ c.in-Ok.is)
          c.in-Err.ensures.cause (λ is. is) (λ is. is);
      same_kind = c.roll.ensures.same_kind ∙ kind;
      changes = omega (arith, c.open.ensures.changes, c.roll.ensures.changes);
      changed = rose_later _ _ _ (rose_of _ _ c.open.ensures.changed) c.roll.ensures.changes;
    }
