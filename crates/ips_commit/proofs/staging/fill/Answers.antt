use Rattle.std.proofs.Common.{List, Some, length, map, refl, ap, subst, ◌∙◌, sym}
use Rattle.ips_text.specs.Ancestry.{covers}
use Rattle.ips_outside.specs.State.{State, ChangedWithin, nowhere}
use Rattle.ips_outside.proofs.Moments.{within_then, within_wider}
use Rattle.ips_folder.specs.Calls.{ChangesOnly}
use Rattle.ips_folder.proofs.Runs.{keeps_then, weaker}
use Rattle.ips_steps.specs.Journal.{IsJournal}
use Rattle.ips_steps.specs.Steps.{Step, stage_name}
use Rattle.ips_steps.specs.Private.{journal_name}
use Rattle.ips_steps.specs.View.{step_of}
use Rattle.ips_journal.specs.Text.{journal_text}
use Rattle.ips_commit.proofs.Staged.{can_make_stage, can_make_journal, made_dir, made_entry, made_empty, standing_staged, stage_made, stage_agrees, stage_kept, journal_kept, all_filled, stage_unmarked, journal_unmarked}
use Rattle.ips_contents.proofs.Tried.{rehearsed_within}
use Rattle.ips_commit.specs.Pending.{is_swept}
use Rattle.ips_commit.proofs.OwnNames.{journal_swept, stage_swept}
use Rattle.ips_commit.proofs.Unready.{unlisted}
use Rattle.ips_commit.proofs.GateOpens.{on_err}
use Rattle.ips_commit.proofs.staging.fill.Goals as goal

pub make_dir-requires-clause-can : goal.make_dir-requires-clause-can
make_dir-requires-clause-can g c = λ told.
    can_make_stage (g.F.Source.outside.state c.args.folder.now).held c.args.names.now.stage.bytes c.args.names.now.stage_is (c.requires.cleared told) (c.requires.records told)

pub returns-in_default-clause-any_moment : goal.returns-in_default-clause-any_moment
returns-in_default-clause-any_moment g c = λ told.
    stage_kept g.F.Source.outside g.met.F.Source.sane c.args.folder.now c.make_dir.new.self
    (stage_made g.F.Source.outside g.met.F.Source.sane c.args.names.now.stage.bytes c.args.names.now.stage_is c.args.folder.now c.make_dir.new.self _ c.make_dir.result told c.make_dir.ensures)

pub write_tried-requires-clause-counted : goal.write_tried-requires-clause-counted
write_tried-requires-clause-counted g c = λ told_now. c.requires.counted (sym c.make_dir.ensures.call.same_kind ∙ told_now)

pub write_tried-requires-clause-stage : goal.write_tried-requires-clause-stage
write_tried-requires-clause-stage g c = λ told_now.
    let o = g.F.Source.outside in
    let told = sym c.make_dir.ensures.call.same_kind ∙ told_now in
    made_dir c.args.names.now.stage.bytes (o.state c.args.folder.now).held (o.state c.make_dir.new.self).held c.args.names.now.stage_is (ap (λ (s : State). s.held) (c.in-Ok.ensures.done told))

pub write_tried-requires-clause-empty : goal.write_tried-requires-clause-empty
write_tried-requires-clause-empty g c = λ told_now.
    let o = g.F.Source.outside in
    let told = sym c.make_dir.ensures.call.same_kind ∙ told_now in
    made_empty c.args.names.now.stage.bytes (o.state c.args.folder.now).held (o.state c.make_dir.new.self).held c.args.names.now.stage_is (ap (λ (s : State). s.held) (c.in-Ok.ensures.done told))

pub write_tried-requires-clause-standing : goal.write_tried-requires-clause-standing
write_tried-requires-clause-standing g c = λ told_now.
    let o = g.F.Source.outside in
    let told = sym c.make_dir.ensures.call.same_kind ∙ told_now in
    standing_staged (o.state c.args.folder.now).held (o.state c.make_dir.new.self).held
    (stage_agrees o g.met.F.Source.sane c.args.folder.now c.make_dir.new.self
    (stage_made o g.met.F.Source.sane c.args.names.now.stage.bytes c.args.names.now.stage_is c.args.folder.now c.make_dir.new.self _ c.make_dir.result told c.make_dir.ensures))
    c.args.staged.now c.requires.seen (c.requires.standing told)

pub returns-in_err-tried-clause-any_moment : goal.returns-in_err-tried-clause-any_moment
returns-in_err-tried-clause-any_moment g c = λ told.
    let o = g.F.Source.outside in
    stage_kept o g.met.F.Source.sane c.args.folder.now c.write_tried.new.folder
    (keeps_then o (covers stage_name) (covers stage_name) c.args.folder.now c.make_dir.new.self c.write_tried.new.folder
    (stage_made o g.met.F.Source.sane c.args.names.now.stage.bytes c.args.names.now.stage_is c.args.folder.now c.make_dir.new.self _ c.make_dir.result told c.make_dir.ensures)
    (c.write_tried.ensures.any_moment (c.make_dir.ensures.call.same_kind ∙ told)))

pub write_journal-requires-clause-lists : goal.write_journal-requires-clause-lists
write_journal-requires-clause-lists g c = subst IsJournal (sym c.in_ok-tried.ensures.of) c.requires.lists

pub write_journal-requires-clause-can : goal.write_journal-requires-clause-can
write_journal-requires-clause-can g c = λ told_now.
    let o = g.F.Source.outside in
    let told = sym c.make_dir.ensures.call.same_kind ∙ sym c.write_tried.ensures.stages.same_kind ∙ told_now in
    let run : ChangesOnly o (covers stage_name) (covers stage_name) c.args.folder.now c.write_tried.new.folder =
    keeps_then o (covers stage_name) (covers stage_name) c.args.folder.now c.make_dir.new.self c.write_tried.new.folder
    (stage_made o g.met.F.Source.sane c.args.names.now.stage.bytes c.args.names.now.stage_is c.args.folder.now c.make_dir.new.self _ c.make_dir.result told c.make_dir.ensures)
    (c.write_tried.ensures.any_moment (c.make_dir.ensures.call.same_kind ∙ told)) in
    can_make_journal (o.state c.args.folder.now).held (o.state c.write_tried.new.folder).held journal_name refl (stage_agrees o g.met.F.Source.sane c.args.folder.now c.write_tried.new.folder run) (c.requires.cleared told) (c.requires.records told)

pub returns-in-Err-OutOfMemory-clause-any_moment : goal.returns-in-Err-OutOfMemory-clause-any_moment
returns-in-Err-OutOfMemory-clause-any_moment g c = λ told.
    let o = g.F.Source.outside in
    let run : ChangesOnly o (covers stage_name) (covers stage_name) c.args.folder.now c.write_tried.new.folder =
    keeps_then o (covers stage_name) (covers stage_name) c.args.folder.now c.make_dir.new.self c.write_tried.new.folder
    (stage_made o g.met.F.Source.sane c.args.names.now.stage.bytes c.args.names.now.stage_is c.args.folder.now c.make_dir.new.self _ c.make_dir.result told c.make_dir.ensures)
    (c.write_tried.ensures.any_moment (c.make_dir.ensures.call.same_kind ∙ told)) in
    journal_kept o g.met.F.Source.sane journal_name refl c.args.folder.now c.write_tried.new.folder c.write_journal.new.folder run
    (c.write_journal.ensures.any_moment (c.write_tried.ensures.stages.same_kind ∙ c.make_dir.ensures.call.same_kind ∙ told))

pub returns-in-Err-Bad-clause-any_moment : goal.returns-in-Err-Bad-clause-any_moment
returns-in-Err-Bad-clause-any_moment g c = λ told.
    let o = g.F.Source.outside in
    let run : ChangesOnly o (covers stage_name) (covers stage_name) c.args.folder.now c.write_tried.new.folder =
    keeps_then o (covers stage_name) (covers stage_name) c.args.folder.now c.make_dir.new.self c.write_tried.new.folder
    (stage_made o g.met.F.Source.sane c.args.names.now.stage.bytes c.args.names.now.stage_is c.args.folder.now c.make_dir.new.self _ c.make_dir.result told c.make_dir.ensures)
    (c.write_tried.ensures.any_moment (c.make_dir.ensures.call.same_kind ∙ told)) in
    journal_kept o g.met.F.Source.sane journal_name refl c.args.folder.now c.write_tried.new.folder c.write_journal.new.folder run
    (c.write_journal.ensures.any_moment (c.write_tried.ensures.stages.same_kind ∙ c.make_dir.ensures.call.same_kind ∙ told))

pub returns-in-Ok-write_journal-clause-any_moment : goal.returns-in-Ok-write_journal-clause-any_moment
returns-in-Ok-write_journal-clause-any_moment g c = λ told.
    let o = g.F.Source.outside in
    let run : ChangesOnly o (covers stage_name) (covers stage_name) c.args.folder.now c.write_tried.new.folder =
    keeps_then o (covers stage_name) (covers stage_name) c.args.folder.now c.make_dir.new.self c.write_tried.new.folder
    (stage_made o g.met.F.Source.sane c.args.names.now.stage.bytes c.args.names.now.stage_is c.args.folder.now c.make_dir.new.self _ c.make_dir.result told c.make_dir.ensures)
    (c.write_tried.ensures.any_moment (c.make_dir.ensures.call.same_kind ∙ told)) in
    journal_kept o g.met.F.Source.sane journal_name refl c.args.folder.now c.write_tried.new.folder c.write_journal.new.folder run
    (c.write_journal.ensures.any_moment (c.write_tried.ensures.stages.same_kind ∙ c.make_dir.ensures.call.same_kind ∙ told))

pub returns-in-Ok-write_journal-clause-filled : goal.returns-in-Ok-write_journal-clause-filled
returns-in-Ok-write_journal-clause-filled g c = λ told.
    let o = g.F.Source.outside in
    let told_1 = c.make_dir.ensures.call.same_kind ∙ told in
    let told_2 = c.write_tried.ensures.stages.same_kind ∙ told_1 in
    let made : ChangesOnly o (covers stage_name) (covers stage_name) c.args.folder.now c.make_dir.new.self =
    stage_made o g.met.F.Source.sane c.args.names.now.stage.bytes c.args.names.now.stage_is c.args.folder.now c.make_dir.new.self _ c.make_dir.result told c.make_dir.ensures in
    let run : ChangesOnly o (covers stage_name) (covers stage_name) c.args.folder.now c.write_tried.new.folder =
    keeps_then o (covers stage_name) (covers stage_name) c.args.folder.now c.make_dir.new.self c.write_tried.new.folder made (c.write_tried.ensures.any_moment told_1) in
    all_filled (g.S.Source.outside.tells c.args.source.now) (g.S.Source.outside.state c.args.source.now).held c.args.publisher.now (map step_of c.args.steps.now) c.args.staged.now
    (o.state c.args.folder.now).held (o.state c.make_dir.new.self).held (o.state c.write_tried.new.folder).held (o.state c.write_journal.new.folder)
    (c.requires.cleared told) c.requires.seen (stage_agrees o g.met.F.Source.sane c.args.folder.now c.make_dir.new.self made) (stage_agrees o g.met.F.Source.sane c.args.folder.now c.write_tried.new.folder run)
    (c.write_journal.ensures.any_moment told_2).now.agrees (c.in_ok-tried.ensures.written told_1) (c.in_ok-tried.ensures.modes told_1) (c.in_ok-tried.ensures.alone told_1)
    (c.in_ok-tried.ensures.stands told_1 ∙ made_entry c.args.names.now.stage.bytes (o.state c.args.folder.now).held (o.state c.make_dir.new.self).held c.args.names.now.stage_is (ap (λ (s : State). s.held) (c.in-Ok.ensures.done told)))
    (c.in_ok-tried.ensures.only told_1) (c.in-Ok-write_journal.ensures.written told_2 ∙ ap (λ (l : List Step). Some (journal_text l)) c.in_ok-tried.ensures.of) (c.in-Ok-write_journal.ensures.safe told_2)

pub returns-in-Ok-write_journal-clause-rehearsed : goal.returns-in-Ok-write_journal-clause-rehearsed
returns-in-Ok-write_journal-clause-rehearsed g c = λ told.
    let o = g.F.Source.outside in
    let sane = g.met.F.Source.sane in
    let old = c.args.folder.now in
    let mid = c.make_dir.new.self in
    let late = c.write_tried.new.folder in
    let told_1 = c.make_dir.ensures.call.same_kind ∙ told in
    let told_2 = c.write_tried.ensures.stages.same_kind ∙ told_1 in
    let made : ChangesOnly o (covers stage_name) (covers stage_name) old mid = stage_made o sane c.args.names.now.stage.bytes c.args.names.now.stage_is old mid _ c.make_dir.result told c.make_dir.ensures in
    let run : ChangesOnly o (covers stage_name) (covers stage_name) old late = keeps_then o (covers stage_name) (covers stage_name) old mid late made (c.write_tried.ensures.any_moment told_1) in
    rehearsed_within o (ChangedWithin (covers stage_name) (covers stage_name) (o.state mid)) (ChangedWithin is_swept is_swept (o.state old)) c.args.steps.now (length c.args.staged.now) old mid late c.write_journal.new.folder
    (stage_kept o sane old mid made).moments
    (λ s w. within_then is_swept is_swept (o.state old) (o.state mid) s (stage_kept o sane old mid made).now (within_wider (covers stage_name) (covers stage_name) is_swept is_swept (o.state mid) s stage_swept stage_swept w))
    (weaker o late c.write_journal.new.folder (ChangedWithin (covers journal_name) nowhere (o.state late)) (ChangedWithin is_swept is_swept (o.state old))
    (λ s w. within_then is_swept is_swept (o.state old) (o.state late) s (stage_kept o sane old late run).now (within_wider (covers journal_name) nowhere is_swept is_swept (o.state late) s journal_swept (λ q off. refl) w))
    (c.write_journal.ensures.any_moment told_2).moments)
    (c.in_ok-tried.ensures.rehearsed told_1)

pub returns-in_default-clause-unready : goal.returns-in_default-clause-unready
returns-in_default-clause-unready g c = λ told.
    let o = g.F.Source.outside in
    let made = stage_made o g.met.F.Source.sane c.args.names.now.stage.bytes c.args.names.now.stage_is c.args.folder.now c.make_dir.new.self _ c.make_dir.result told c.make_dir.ensures in
    unlisted (o.state c.args.folder.now).held (o.state c.make_dir.new.self) (c.requires.cleared told) (stage_agrees o g.met.F.Source.sane c.args.folder.now c.make_dir.new.self made)

pub returns-in_err-tried-clause-unready : goal.returns-in_err-tried-clause-unready
returns-in_err-tried-clause-unready g c = λ told.
    let o = g.F.Source.outside in
    let run : ChangesOnly o (covers stage_name) (covers stage_name) c.args.folder.now c.write_tried.new.folder =
    keeps_then o (covers stage_name) (covers stage_name) c.args.folder.now c.make_dir.new.self c.write_tried.new.folder
    (stage_made o g.met.F.Source.sane c.args.names.now.stage.bytes c.args.names.now.stage_is c.args.folder.now c.make_dir.new.self _ c.make_dir.result told c.make_dir.ensures)
    (c.write_tried.ensures.any_moment (c.make_dir.ensures.call.same_kind ∙ told)) in
    on_err _ _ (unlisted (o.state c.args.folder.now).held (o.state c.write_tried.new.folder) (c.requires.cleared told) (stage_agrees o g.met.F.Source.sane c.args.folder.now c.write_tried.new.folder run))

pub returns-in-Err-OutOfMemory-clause-unready : goal.returns-in-Err-OutOfMemory-clause-unready
returns-in-Err-OutOfMemory-clause-unready g c = λ told.
    c.in-Err-OutOfMemory.ensures.unready (c.write_tried.ensures.stages.same_kind ∙ c.make_dir.ensures.call.same_kind ∙ told)

pub returns-in-Err-Bad-clause-unready : goal.returns-in-Err-Bad-clause-unready
returns-in-Err-Bad-clause-unready g c = λ told.
    c.in-Err-Bad.ensures.unready (c.write_tried.ensures.stages.same_kind ∙ c.make_dir.ensures.call.same_kind ∙ told)

pub returns-in_default-clause-unmarked : goal.returns-in_default-clause-unmarked
returns-in_default-clause-unmarked g c = λ told.
    let o = g.F.Source.outside in
    stage_unmarked (o.state c.args.folder.now).held (o.state c.make_dir.new.self).held (c.requires.cleared told)
    (stage_agrees o g.met.F.Source.sane c.args.folder.now c.make_dir.new.self
    (stage_made o g.met.F.Source.sane c.args.names.now.stage.bytes c.args.names.now.stage_is c.args.folder.now c.make_dir.new.self _ c.make_dir.result told c.make_dir.ensures))

pub returns-in_err-tried-clause-unmarked : goal.returns-in_err-tried-clause-unmarked
returns-in_err-tried-clause-unmarked g c = λ told.
    let o = g.F.Source.outside in
    let run : ChangesOnly o (covers stage_name) (covers stage_name) c.args.folder.now c.write_tried.new.folder =
    keeps_then o (covers stage_name) (covers stage_name) c.args.folder.now c.make_dir.new.self c.write_tried.new.folder
    (stage_made o g.met.F.Source.sane c.args.names.now.stage.bytes c.args.names.now.stage_is c.args.folder.now c.make_dir.new.self _ c.make_dir.result told c.make_dir.ensures)
    (c.write_tried.ensures.any_moment (c.make_dir.ensures.call.same_kind ∙ told)) in
    stage_unmarked (o.state c.args.folder.now).held (o.state c.write_tried.new.folder).held (c.requires.cleared told) (stage_agrees o g.met.F.Source.sane c.args.folder.now c.write_tried.new.folder run)

pub returns-in-Err-OutOfMemory-clause-unmarked : goal.returns-in-Err-OutOfMemory-clause-unmarked
returns-in-Err-OutOfMemory-clause-unmarked g c = λ told.
    let o = g.F.Source.outside in
    let run : ChangesOnly o (covers stage_name) (covers stage_name) c.args.folder.now c.write_tried.new.folder =
    keeps_then o (covers stage_name) (covers stage_name) c.args.folder.now c.make_dir.new.self c.write_tried.new.folder
    (stage_made o g.met.F.Source.sane c.args.names.now.stage.bytes c.args.names.now.stage_is c.args.folder.now c.make_dir.new.self _ c.make_dir.result told c.make_dir.ensures)
    (c.write_tried.ensures.any_moment (c.make_dir.ensures.call.same_kind ∙ told)) in
    journal_unmarked (o.state c.args.folder.now).held (o.state c.write_tried.new.folder).held (o.state c.write_journal.new.folder).held (c.requires.cleared told)
    (stage_agrees o g.met.F.Source.sane c.args.folder.now c.write_tried.new.folder run)
    (c.write_journal.ensures.any_moment (c.write_tried.ensures.stages.same_kind ∙ c.make_dir.ensures.call.same_kind ∙ told)).now.agrees

pub returns-in-Err-Bad-clause-unmarked : goal.returns-in-Err-Bad-clause-unmarked
returns-in-Err-Bad-clause-unmarked g c = λ told.
    let o = g.F.Source.outside in
    let run : ChangesOnly o (covers stage_name) (covers stage_name) c.args.folder.now c.write_tried.new.folder =
    keeps_then o (covers stage_name) (covers stage_name) c.args.folder.now c.make_dir.new.self c.write_tried.new.folder
    (stage_made o g.met.F.Source.sane c.args.names.now.stage.bytes c.args.names.now.stage_is c.args.folder.now c.make_dir.new.self _ c.make_dir.result told c.make_dir.ensures)
    (c.write_tried.ensures.any_moment (c.make_dir.ensures.call.same_kind ∙ told)) in
    journal_unmarked (o.state c.args.folder.now).held (o.state c.write_tried.new.folder).held (o.state c.write_journal.new.folder).held (c.requires.cleared told)
    (stage_agrees o g.met.F.Source.sane c.args.folder.now c.write_tried.new.folder run)
    (c.write_journal.ensures.any_moment (c.write_tried.ensures.stages.same_kind ∙ c.make_dir.ensures.call.same_kind ∙ told)).now.agrees

pub returns-in-Ok-write_journal-clause-unmarked : goal.returns-in-Ok-write_journal-clause-unmarked
returns-in-Ok-write_journal-clause-unmarked g c = λ told.
    let o = g.F.Source.outside in
    let run : ChangesOnly o (covers stage_name) (covers stage_name) c.args.folder.now c.write_tried.new.folder =
    keeps_then o (covers stage_name) (covers stage_name) c.args.folder.now c.make_dir.new.self c.write_tried.new.folder
    (stage_made o g.met.F.Source.sane c.args.names.now.stage.bytes c.args.names.now.stage_is c.args.folder.now c.make_dir.new.self _ c.make_dir.result told c.make_dir.ensures)
    (c.write_tried.ensures.any_moment (c.make_dir.ensures.call.same_kind ∙ told)) in
    journal_unmarked (o.state c.args.folder.now).held (o.state c.write_tried.new.folder).held (o.state c.write_journal.new.folder).held (c.requires.cleared told)
    (stage_agrees o g.met.F.Source.sane c.args.folder.now c.write_tried.new.folder run)
    (c.write_journal.ensures.any_moment (c.write_tried.ensures.stages.same_kind ∙ c.make_dir.ensures.call.same_kind ∙ told)).now.agrees
