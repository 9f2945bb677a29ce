use Rattle.std.proofs.Common.{sym, ◌∙◌}
use Rattle.ips_outside.specs.Children.{path_bytes}
use Rattle.ips_commit.proofs.Rolled.{unmarked_owed, first_way, first_at, first_journalled, first_can, first_done, first_says, first_still, first_means, first_owed, not_begun, first_unfinished}
use Rattle.ips_commit.proofs.recovering.roll_forward.Goals as goal

pub returns-in_default-clause-owed : goal.returns-in_default-clause-owed
returns-in_default-clause-owed g c = λ told b x due owes.
    unmarked_owed g.F.Source.outside g.met.F.Source.sane c.args.folder.now c.keep_first.new.folder (path_bytes c.args.marks.now) c.requires.own (c.requires.marks told) c.args.reader.now c.args.count c.requires.few (c.requires.placed told) (c.requires.safe told) (c.keep_first.ensures.any_moment told) (c.requires.gate told) b x due owes

pub roll-requires-clause-way : goal.roll-requires-clause-way
roll-requires-clause-way g c = λ told_now.
    let told = sym c.keep_first.ensures.same_kind ∙ told_now in
    first_way g.F.Source.outside g.met.F.Source.sane c.args.folder.now c.keep_first.new.folder (path_bytes c.args.marks.now) c.requires.own (c.requires.marks told) c.args.reader.now c.args.count c.requires.few (c.requires.placed told) (c.requires.safe told) (c.keep_first.ensures.any_moment told)
    (c.in-Ok.ensures.others told (c.requires.marks told).others) (c.in-Ok.ensures.safe told) (c.requires.gate told)

pub roll-requires-clause-at : goal.roll-requires-clause-at
roll-requires-clause-at g c = λ told_now.
    let told = sym c.keep_first.ensures.same_kind ∙ told_now in (
      _,
      first_at g.F.Source.outside g.met.F.Source.sane c.args.folder.now c.keep_first.new.folder (path_bytes c.args.marks.now) c.requires.own (c.requires.marks told) c.args.reader.now c.args.count c.requires.few (c.requires.placed told) (c.requires.safe told) (c.keep_first.ensures.any_moment told)
          (c.in-Ok.ensures.others told (c.requires.marks told).others) (c.in-Ok.ensures.safe told),
    )

pub returns-in-Ok-roll-clause-owed : goal.returns-in-Ok-roll-clause-owed
returns-in-Ok-roll-clause-owed g c = λ told b x due owes.
    first_owed g.F.Source.outside g.met.F.Source.sane c.args.folder.now c.keep_first.new.folder (path_bytes c.args.marks.now) c.requires.own (c.requires.marks told) c.args.reader.now c.args.count c.requires.few (c.requires.placed told) (c.requires.safe told) (c.keep_first.ensures.any_moment told)
    (c.in-Ok.ensures.others told (c.requires.marks told).others) (c.in-Ok.ensures.safe told) c.roll.new.folder (c.requires.gate told) b x due owes
    (λ a is_open. c.roll.ensures.owed (c.keep_first.ensures.same_kind ∙ told) (c.requires.placed told).steps b a due is_open
    (first_at g.F.Source.outside g.met.F.Source.sane c.args.folder.now c.keep_first.new.folder (path_bytes c.args.marks.now) c.requires.own (c.requires.marks told) c.args.reader.now c.args.count c.requires.few (c.requires.placed told) (c.requires.safe told) (c.keep_first.ensures.any_moment told)
    (c.in-Ok.ensures.others told (c.requires.marks told).others) (c.in-Ok.ensures.safe told)))

pub returns-in-Err-clause-owed : goal.returns-in-Err-clause-owed
returns-in-Err-clause-owed g c = λ told b x due owes.
    first_owed g.F.Source.outside g.met.F.Source.sane c.args.folder.now c.keep_first.new.folder (path_bytes c.args.marks.now) c.requires.own (c.requires.marks told) c.args.reader.now c.args.count c.requires.few (c.requires.placed told) (c.requires.safe told) (c.keep_first.ensures.any_moment told)
    (c.in-Ok.ensures.others told (c.requires.marks told).others) (c.in-Ok.ensures.safe told) c.roll.new.folder (c.requires.gate told) b x due owes
    (λ a is_open. c.roll.ensures.owed (c.keep_first.ensures.same_kind ∙ told) (c.requires.placed told).steps b a due is_open
    (first_at g.F.Source.outside g.met.F.Source.sane c.args.folder.now c.keep_first.new.folder (path_bytes c.args.marks.now) c.requires.own (c.requires.marks told) c.args.reader.now c.args.count c.requires.few (c.requires.placed told) (c.requires.safe told) (c.keep_first.ensures.any_moment told)
    (c.in-Ok.ensures.others told (c.requires.marks told).others) (c.in-Ok.ensures.safe told)))

pub returns-in-Ok-roll-clause-done : goal.returns-in-Ok-roll-clause-done
returns-in-Ok-roll-clause-done g c = λ told.
    let all = c.in-Ok-roll.ensures.done (c.keep_first.ensures.same_kind ∙ told) (c.requires.placed told).steps
    (first_journalled g.F.Source.outside g.met.F.Source.sane c.args.folder.now c.keep_first.new.folder (path_bytes c.args.marks.now) c.requires.own (c.requires.marks told) c.args.reader.now c.args.count c.requires.few (c.requires.placed told) (c.requires.safe told) (c.keep_first.ensures.any_moment told)
    (c.in-Ok.ensures.others told (c.requires.marks told).others) (c.in-Ok.ensures.safe told))
    (first_at g.F.Source.outside g.met.F.Source.sane c.args.folder.now c.keep_first.new.folder (path_bytes c.args.marks.now) c.requires.own (c.requires.marks told) c.args.reader.now c.args.count c.requires.few (c.requires.placed told) (c.requires.safe told) (c.keep_first.ensures.any_moment told)
    (c.in-Ok.ensures.others told (c.requires.marks told).others) (c.in-Ok.ensures.safe told)) in (
      (c.requires.placed told).steps,
      c.args.count,
      first_can g.F.Source.outside g.met.F.Source.sane c.args.folder.now c.keep_first.new.folder (path_bytes c.args.marks.now) c.requires.own (c.requires.marks told) c.args.reader.now c.args.count c.requires.few (c.requires.placed told) (c.requires.safe told) (c.keep_first.ensures.any_moment told)
          (c.in-Ok.ensures.others told (c.requires.marks told).others) (c.in-Ok.ensures.safe told) all.1,
      first_done g.F.Source.outside g.met.F.Source.sane c.args.folder.now c.keep_first.new.folder (path_bytes c.args.marks.now) c.requires.own (c.requires.marks told) c.args.reader.now c.args.count c.requires.few (c.requires.placed told) (c.requires.safe told) (c.keep_first.ensures.any_moment told)
          (c.in-Ok.ensures.others told (c.requires.marks told).others) (c.in-Ok.ensures.safe told) (g.F.Source.outside.state c.roll.new.folder) all.2,
      all.3,
    )

pub returns-in-Ok-roll-clause-meant : goal.returns-in-Ok-roll-clause-meant
returns-in-Ok-roll-clause-meant g c = λ told steps m a is_open.
    let all = c.in-Ok-roll.ensures.done (c.keep_first.ensures.same_kind ∙ told) (c.requires.placed told).steps
    (first_journalled g.F.Source.outside g.met.F.Source.sane c.args.folder.now c.keep_first.new.folder (path_bytes c.args.marks.now) c.requires.own (c.requires.marks told) c.args.reader.now c.args.count c.requires.few (c.requires.placed told) (c.requires.safe told) (c.keep_first.ensures.any_moment told)
    (c.in-Ok.ensures.others told (c.requires.marks told).others) (c.in-Ok.ensures.safe told))
    (first_at g.F.Source.outside g.met.F.Source.sane c.args.folder.now c.keep_first.new.folder (path_bytes c.args.marks.now) c.requires.own (c.requires.marks told) c.args.reader.now c.args.count c.requires.few (c.requires.placed told) (c.requires.safe told) (c.keep_first.ensures.any_moment told)
    (c.in-Ok.ensures.others told (c.requires.marks told).others) (c.in-Ok.ensures.safe told)) in (
      first_means g.F.Source.outside g.met.F.Source.sane c.args.folder.now c.keep_first.new.folder (path_bytes c.args.marks.now) c.requires.own (c.requires.marks told) c.args.reader.now c.args.count c.requires.few (c.requires.placed told) (c.requires.safe told) (c.keep_first.ensures.any_moment told)
          (c.in-Ok.ensures.others told (c.requires.marks told).others) (c.in-Ok.ensures.safe told) steps m a is_open (g.F.Source.outside.state c.roll.new.folder)
          (first_done g.F.Source.outside g.met.F.Source.sane c.args.folder.now c.keep_first.new.folder (path_bytes c.args.marks.now) c.requires.own (c.requires.marks told) c.args.reader.now c.args.count c.requires.few (c.requires.placed told) (c.requires.safe told) (c.keep_first.ensures.any_moment told)
          (c.in-Ok.ensures.others told (c.requires.marks told).others) (c.in-Ok.ensures.safe told) (g.F.Source.outside.state c.roll.new.folder) all.2),
      tt,
    )

pub returns-in-Err-clause-meant : goal.returns-in-Err-clause-meant
returns-in-Err-clause-meant g c = λ told steps m a is_open. (
  tt,
  c.in-Err.ensures.meant (c.keep_first.ensures.same_kind ∙ told) (c.requires.placed told).steps a
      (first_still g.F.Source.outside g.met.F.Source.sane c.args.folder.now c.keep_first.new.folder (path_bytes c.args.marks.now) c.requires.own (c.requires.marks told) c.args.reader.now c.args.count c.requires.few (c.requires.placed told) (c.requires.safe told) (c.keep_first.ensures.any_moment told)
      (c.in-Ok.ensures.others told (c.requires.marks told).others) (c.in-Ok.ensures.safe told) steps m a is_open)
      (first_at g.F.Source.outside g.met.F.Source.sane c.args.folder.now c.keep_first.new.folder (path_bytes c.args.marks.now) c.requires.own (c.requires.marks told) c.args.reader.now c.args.count c.requires.few (c.requires.placed told) (c.requires.safe told) (c.keep_first.ensures.any_moment told)
      (c.in-Ok.ensures.others told (c.requires.marks told).others) (c.in-Ok.ensures.safe told)),
)

pub returns-in-Err-clause-refused : goal.returns-in-Err-clause-refused
returns-in-Err-clause-refused g c = λ told.
    first_says g.F.Source.outside g.met.F.Source.sane c.args.folder.now c.keep_first.new.folder (path_bytes c.args.marks.now) c.requires.own (c.requires.marks told) c.args.reader.now c.args.count c.requires.few (c.requires.placed told) (c.requires.safe told) (c.keep_first.ensures.any_moment told)
    (c.in-Ok.ensures.others told (c.requires.marks told).others) (c.in-Ok.ensures.safe told) (g.F.Source.outside.state c.roll.new.folder).held _ _ c.in-Err.fault
    (c.in-Err.ensures.refused (c.keep_first.ensures.same_kind ∙ told) (c.requires.placed told).steps
    (first_journalled g.F.Source.outside g.met.F.Source.sane c.args.folder.now c.keep_first.new.folder (path_bytes c.args.marks.now) c.requires.own (c.requires.marks told) c.args.reader.now c.args.count c.requires.few (c.requires.placed told) (c.requires.safe told) (c.keep_first.ensures.any_moment told)
    (c.in-Ok.ensures.others told (c.requires.marks told).others) (c.in-Ok.ensures.safe told))
    (first_at g.F.Source.outside g.met.F.Source.sane c.args.folder.now c.keep_first.new.folder (path_bytes c.args.marks.now) c.requires.own (c.requires.marks told) c.args.reader.now c.args.count c.requires.few (c.requires.placed told) (c.requires.safe told) (c.keep_first.ensures.any_moment told)
    (c.in-Ok.ensures.others told (c.requires.marks told).others) (c.in-Ok.ensures.safe told)))

pub returns-in_default-clause-stopped : goal.returns-in_default-clause-stopped
returns-in_default-clause-stopped g c = λ told steps m is unfinished.
    not_begun g.F.Source.outside g.met.F.Source.sane c.args.folder.now c.keep_first.new.folder (path_bytes c.args.marks.now) c.requires.own (c.requires.marks told) c.args.reader.now c.args.count c.requires.few (c.requires.placed told) (c.requires.safe told) (c.keep_first.ensures.any_moment told) (c.requires.gate told) steps m is _

pub returns-in-Err-clause-stopped : goal.returns-in-Err-clause-stopped
returns-in-Err-clause-stopped g c = λ told steps m is unfinished.
    first_unfinished g.F.Source.outside g.met.F.Source.sane c.args.folder.now c.keep_first.new.folder (path_bytes c.args.marks.now) c.requires.own (c.requires.marks told) c.args.reader.now c.args.count c.requires.few (c.requires.placed told) (c.requires.safe told) (c.keep_first.ensures.any_moment told)
    (c.in-Ok.ensures.others told (c.requires.marks told).others) (c.in-Ok.ensures.safe told) (g.F.Source.outside.state c.roll.new.folder) _ _ steps m is
    (c.in-Err.ensures.stopped (c.keep_first.ensures.same_kind ∙ told) (c.requires.placed told).steps
    (first_journalled g.F.Source.outside g.met.F.Source.sane c.args.folder.now c.keep_first.new.folder (path_bytes c.args.marks.now) c.requires.own (c.requires.marks told) c.args.reader.now c.args.count c.requires.few (c.requires.placed told) (c.requires.safe told) (c.keep_first.ensures.any_moment told)
    (c.in-Ok.ensures.others told (c.requires.marks told).others) (c.in-Ok.ensures.safe told))
    (first_at g.F.Source.outside g.met.F.Source.sane c.args.folder.now c.keep_first.new.folder (path_bytes c.args.marks.now) c.requires.own (c.requires.marks told) c.args.reader.now c.args.count c.requires.few (c.requires.placed told) (c.requires.safe told) (c.keep_first.ensures.any_moment told)
    (c.in-Ok.ensures.others told (c.requires.marks told).others) (c.in-Ok.ensures.safe told)) unfinished)
