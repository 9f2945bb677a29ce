use Rattle.std.proofs.Common.{inl, inr, ⊎_elim, refl, sym, ◌∙◌, ap, subst, false}
use Rattle.ips_outside.specs.State.{State}
use Rattle.ips_outside.proofs.Faults.{one_before}
use Rattle.ips_outside.proofs.Reading.{reads_none}
use Rattle.ips_outside.specs.Image.{Image}
use Rattle.ips_steps.specs.Private.{gate_name}
use Rattle.ips_steps.proofs.Lists.{clash}
use Rattle.ips_commit.specs.Pending.{IsBare, IsPending}
use Rattle.ips_history.specs.Directories.{shows, creates, with_directories}
use Rattle.ips_run.specs.declared.ending.Ending.TheVariants as ending
use Rattle.ips_commit.proofs.Masked.{told_own, told_alike, none_masked, reads_with}
use Rattle.ips_run.specs.Ending.{is_done, is_source_fault, is_spawn_fault}
use Rattle.ips_run.proofs.Opened.{failed_since, since_opened, no_fewer, synced_safe, as_settled, elapses_kept, opened, run_unopened, run_read, run_back, run_asked, run_created}
use Rattle.ips_run.proofs.Nexts.{shown_of, changed_of, created_of, show_is, change_is, recover_is, create_is}
use Rattle.ips_run.proofs.Performed.{fault_of, out_of_memory_of, unfinished_of, early_fault, early_out_of_memory, early_unfinished, left_fault, comes_unopened, comes_refused, comes_back, comes_shown, comes_asked, comes_created, image_same, image_with, next_as}
use Rattle.ips_run.proofs.Listed.{listed_since, listed_on}
use Rattle.ips_run.proofs.Never.{never_synced, never_asked, never_back, never_read, never_created}
use Rattle.ips_run.proofs.Unbegun.{unbegun_read, unbegun_settled, left_since, never_recovers}
use Rattle.ips_run.proofs.Leaving.{leaves_same, leaves_some, comes_leaving}
use Rattle.ips_run.proofs.performing.perform.Goals as goal

pub returns-in_default-clause-run : goal.returns-in_default-clause-run
returns-in_default-clause-run g c = λ told.
    run_unopened g.F.Source.outside g.met.F.Source.sane _ (g.C.Operation.effect c.args.operation.now) (fault_of (g.C.Operation.decides c.args.operation.now (g.S.Source.outside.tells c.args.source.now) (g.S.Source.outside.state c.args.source.now).held)) _ _ c.args.folder.now c.sync.new.self c.sync.ensures.call.time c.in_default.ensures.kept early_fault refl refl refl

pub returns-in_default-clause-comes : goal.returns-in_default-clause-comes
returns-in_default-clause-comes g c = λ told.
    comes_unopened g.P.Spawner.running c.args.spawner.now (g.C.Operation.effect c.args.operation.now) (g.C.Operation.decides c.args.operation.now (g.S.Source.outside.tells c.args.source.now) (g.S.Source.outside.state c.args.source.now).held) _ _ _ _ _ (ending.FolderFault false) refl (leaves_some _ _ _ _ refl refl)

pub returns-in-Err-Bad-clause-run : goal.returns-in-Err-Bad-clause-run
returns-in-Err-Bad-clause-run g c = λ told.
    run_read g.F.Source.outside g.met.F.Source.sane _ (g.C.Operation.effect c.args.operation.now) (fault_of (g.C.Operation.decides c.args.operation.now (g.S.Source.outside.tells c.args.source.now) (g.S.Source.outside.state c.args.source.now).held)) _ _ c.args.folder.now c.sync.new.self c.pending.new.folder c.sync.ensures.call.time (c.in-Ok.ensures.done told)
    (opened g.F.Source.outside g.met.F.Source.sane c.args.folder.now c.sync.new.self c.pending.new.folder c.sync.ensures.call.time (c.in-Ok.ensures.done told) c.sync.ensures.one_made (no_fewer _ _ c.pending.ensures.reads.none_made)) c.pending.ensures.reads.call.time c.pending.ensures.reads.kept early_fault (λ none. cc)

pub returns-in-Err-Bad-clause-comes : goal.returns-in-Err-Bad-clause-comes
returns-in-Err-Bad-clause-comes g c = λ told.
    comes_unopened g.P.Spawner.running c.args.spawner.now (g.C.Operation.effect c.args.operation.now) (g.C.Operation.decides c.args.operation.now (g.S.Source.outside.tells c.args.source.now) (g.S.Source.outside.state c.args.source.now).held) _ _ _ _ _ (ending.FolderFault false) refl (leaves_some _ _ _ _ refl refl)

pub returns-in-Err-OutOfMemory-clause-run : goal.returns-in-Err-OutOfMemory-clause-run
returns-in-Err-OutOfMemory-clause-run g c = λ told.
    run_read g.F.Source.outside g.met.F.Source.sane _ (g.C.Operation.effect c.args.operation.now) (out_of_memory_of (g.C.Operation.decides c.args.operation.now (g.S.Source.outside.tells c.args.source.now) (g.S.Source.outside.state c.args.source.now).held)) _ _ c.args.folder.now c.sync.new.self c.pending.new.folder c.sync.ensures.call.time (c.in-Ok.ensures.done told)
    (opened g.F.Source.outside g.met.F.Source.sane c.args.folder.now c.sync.new.self c.pending.new.folder c.sync.ensures.call.time (c.in-Ok.ensures.done told) c.sync.ensures.one_made (no_fewer _ _ c.pending.ensures.reads.none_made)) c.pending.ensures.reads.call.time c.pending.ensures.reads.kept early_out_of_memory (λ none. cc)

pub returns-in-Err-OutOfMemory-clause-comes : goal.returns-in-Err-OutOfMemory-clause-comes
returns-in-Err-OutOfMemory-clause-comes g c = λ told.
    comes_unopened g.P.Spawner.running c.args.spawner.now (g.C.Operation.effect c.args.operation.now) (g.C.Operation.decides c.args.operation.now (g.S.Source.outside.tells c.args.source.now) (g.S.Source.outside.state c.args.source.now).held) _ _ _ _ _ ending.OutOfMemory tt (leaves_same _ _ _ _ refl (ap (λ (s : State). s.held) (c.pending.ensures.reads.kept ∙ c.in-Ok.ensures.done told)))

pub returns-in-Refuse-clause-run : goal.returns-in-Refuse-clause-run
returns-in-Refuse-clause-run g c = λ told.
    run_read g.F.Source.outside g.met.F.Source.sane _ (g.C.Operation.effect c.args.operation.now) (unfinished_of (g.C.Operation.decides c.args.operation.now (g.S.Source.outside.tells c.args.source.now) (g.S.Source.outside.state c.args.source.now).held)) _ _ c.args.folder.now c.sync.new.self c.pending.new.folder c.sync.ensures.call.time (c.in-Ok.ensures.done told)
    (opened g.F.Source.outside g.met.F.Source.sane c.args.folder.now c.sync.new.self c.pending.new.folder c.sync.ensures.call.time (c.in-Ok.ensures.done told) c.sync.ensures.one_made (no_fewer _ _ c.pending.ensures.reads.none_made)) c.pending.ensures.reads.call.time c.pending.ensures.reads.kept early_unfinished (λ none. cc)

pub returns-in-Refuse-clause-comes : goal.returns-in-Refuse-clause-comes
returns-in-Refuse-clause-comes g c = λ told.
    comes_refused g.P.Spawner.running c.args.spawner.now (g.C.Operation.effect c.args.operation.now) (g.C.Operation.decides c.args.operation.now (g.S.Source.outside.tells c.args.source.now) (g.S.Source.outside.state c.args.source.now).held) _ _ _ _ (g.F.Source.outside.state c.sync.new.self).held _ (ap (λ (s : State). s.held) (c.in-Ok.ensures.done told)) c.in-Ok-pending.found (c.in-Ok-pending.ensures.found (c.sync.ensures.call.same_kind ∙ told)) (next_as (g.C.Operation.effect c.args.operation.now) c.effect.result c.in-Ok-pending.found _ c.phase_behind.result c.effect.ensures c.phase_behind.ensures c.in-Refuse.is) (ap (λ (s : State). s.held) (c.pending.ensures.reads.kept ∙ c.in-Ok.ensures.done told))

pub recovered-requires-clause-safe : goal.recovered-requires-clause-safe
recovered-requires-clause-safe g c = λ told.
    synced_safe (g.F.Source.outside.state c.args.folder.now) (g.F.Source.outside.state c.pending.new.folder)
    (c.pending.ensures.reads.kept ∙ c.in-Ok.ensures.done (sym c.sync.ensures.call.same_kind ∙ sym c.pending.ensures.reads.call.same_kind ∙ told))

pub returns-in-Recover-clause-run : goal.returns-in-Recover-clause-run
returns-in-Recover-clause-run g c = λ told.
    let o = g.F.Source.outside in
    let sane = g.met.F.Source.sane in
    let at = c.pending.new.folder in
    let time = elapses_kept o sane c.args.folder.now c.sync.new.self at c.sync.ensures.call.time c.pending.ensures.reads.call.time c.pending.ensures.reads.kept in
    let is_synced = c.pending.ensures.reads.kept ∙ c.in-Ok.ensures.done told in
    let told_at = c.pending.ensures.reads.call.same_kind ∙ c.sync.ensures.call.same_kind ∙ told in
    run_back o sane _ (g.C.Operation.effect c.args.operation.now) c.recovered.result _ _ c.args.folder.now at c.recovered.new.folder time is_synced
    (opened o sane c.args.folder.now at c.recovered.new.folder time is_synced (one_before _ _ _ c.sync.ensures.one_made c.pending.ensures.reads.none_made) c.recovered.ensures.later) (c.recovered.ensures.back told_at)

pub returns-in-Recover-clause-comes : goal.returns-in-Recover-clause-comes
returns-in-Recover-clause-comes g c = λ told.
    let o = g.F.Source.outside in
    let sane = g.met.F.Source.sane in
    let at = c.pending.new.folder in
    let time = elapses_kept o sane c.args.folder.now c.sync.new.self at c.sync.ensures.call.time c.pending.ensures.reads.call.time c.pending.ensures.reads.kept in
    let is_synced = c.pending.ensures.reads.kept ∙ c.in-Ok.ensures.done told in
    let told_at = c.pending.ensures.reads.call.same_kind ∙ c.sync.ensures.call.same_kind ∙ told in
    comes_back g.P.Spawner.running c.args.spawner.now (g.C.Operation.effect c.args.operation.now) (g.C.Operation.decides c.args.operation.now (g.S.Source.outside.tells c.args.source.now) (g.S.Source.outside.state c.args.source.now).held) _ _ _ _ (g.F.Source.outside.state c.pending.new.folder).held _ ((ap (λ (s : State). s.held) c.pending.ensures.reads.kept) ∙ (ap (λ (s : State). s.held) (c.in-Ok.ensures.done told))) c.in-Ok-pending.found (subst (λ (t : Image). IsPending t c.in-Ok-pending.found) (sym (ap (λ (s : State). s.held) c.pending.ensures.reads.kept)) (c.in-Ok-pending.ensures.found (c.sync.ensures.call.same_kind ∙ told))) _ c.recovered.result (next_as (g.C.Operation.effect c.args.operation.now) c.effect.result c.in-Ok-pending.found _ c.phase_behind.result c.effect.ensures c.phase_behind.ensures c.in-Recover.is) (c.recovered.ensures.told told_at)

pub returns-in-Recover-clause-begun : goal.returns-in-Recover-clause-begun
returns-in-Recover-clause-begun g c = λ told left.
    let o = g.F.Source.outside in
    let sane = g.met.F.Source.sane in
    let at = c.pending.new.folder in
    let time = elapses_kept o sane c.args.folder.now c.sync.new.self at c.sync.ensures.call.time c.pending.ensures.reads.call.time c.pending.ensures.reads.kept in
    let is_synced = c.pending.ensures.reads.kept ∙ c.in-Ok.ensures.done told in
    let told_at = c.pending.ensures.reads.call.same_kind ∙ c.sync.ensures.call.same_kind ∙ told in
    inr (record {
      opened = at;
      synced = is_synced;
      stands = ((c.recovered.ensures.back told_at).resumes left).0;
      since = (since_opened o c.args.folder.now c.sync.new.self at time.later c.sync.ensures.call.cause.later c.pending.ensures.reads.call.cause.later c.sync.ensures.one_made.later c.pending.ensures.reads.none_made);
      rose = c.recovered.ensures.cause.rose (left_fault c.recovered.result left);
      changed = c.recovered.ensures.changed left;
    })

pub returns-in-Recover-clause-shows : goal.returns-in-Recover-clause-shows
returns-in-Recover-clause-shows g c = λ is. absurd (clash (shows (g.C.Operation.effect c.args.operation.now)) is (recover_is (g.C.Operation.effect c.args.operation.now) c.in-Ok-pending.found (next_as (g.C.Operation.effect c.args.operation.now) c.effect.result c.in-Ok-pending.found _ c.phase_behind.result c.effect.ensures c.phase_behind.ensures c.in-Recover.is)))

pub returns-in-Recover-clause-untouched : goal.returns-in-Recover-clause-untouched
returns-in-Recover-clause-untouched g c = λ told there refused.
    let o = g.F.Source.outside in
    let sane = g.met.F.Source.sane in
    let at = c.pending.new.folder in
    let time = elapses_kept o sane c.args.folder.now c.sync.new.self at c.sync.ensures.call.time c.pending.ensures.reads.call.time c.pending.ensures.reads.kept in
    let is_synced = c.pending.ensures.reads.kept ∙ c.in-Ok.ensures.done told in
    let told_at = c.pending.ensures.reads.call.same_kind ∙ c.sync.ensures.call.same_kind ∙ told in
    one_before _ _ _ c.sync.ensures.one_made
    (c.recovered.ensures.untouched told_at (λ shut. there (ap (λ (s : State). s.held.look gate_name) (sym is_synced) ∙ shut)) refused ∙ c.pending.ensures.reads.none_made)

pub shown-requires-clause-shows : goal.shown-requires-clause-shows
shown-requires-clause-shows g c = (show_is (g.C.Operation.effect c.args.operation.now) c.in-Ok-pending.found (next_as (g.C.Operation.effect c.args.operation.now) c.effect.result c.in-Ok-pending.found _ c.phase_behind.result c.effect.ensures c.phase_behind.ensures c.in-Show.is)).0

pub shown-requires-clause-shut : goal.shown-requires-clause-shut
shown-requires-clause-shut g c = λ told.
    let told_at = sym c.pending.ensures.reads.call.same_kind ∙ told in
    let found = c.in-Ok-pending.ensures.found told_at in
    ap (λ (s : State). s.held.look gate_name) c.pending.ensures.reads.kept ∙ (shown_of (g.F.Source.outside.state c.sync.new.self).held (g.C.Operation.effect c.args.operation.now) c.in-Ok-pending.found found (next_as (g.C.Operation.effect c.args.operation.now) c.effect.result c.in-Ok-pending.found _ c.phase_behind.result c.effect.ensures c.phase_behind.ensures c.in-Show.is)).0

pub returns-in-Show-clause-run : goal.returns-in-Show-clause-run
returns-in-Show-clause-run g c = λ told.
    let o = g.F.Source.outside in
    let sane = g.met.F.Source.sane in
    let at = c.pending.new.folder in
    let time = elapses_kept o sane c.args.folder.now c.sync.new.self at c.sync.ensures.call.time c.pending.ensures.reads.call.time c.pending.ensures.reads.kept in
    let is_synced = c.pending.ensures.reads.kept ∙ c.in-Ok.ensures.done told in
    let told_at = c.pending.ensures.reads.call.same_kind ∙ c.sync.ensures.call.same_kind ∙ told in
    let new = c.shown.new.folder in
    let since = elapses_kept o sane c.sync.new.self at new c.pending.ensures.reads.call.time c.shown.ensures.reads.call.time c.shown.ensures.reads.kept in
    run_read o sane _ (g.C.Operation.effect c.args.operation.now) c.shown.result _ _ c.args.folder.now c.sync.new.self new c.sync.ensures.call.time (c.in-Ok.ensures.done told)
    (opened o sane c.args.folder.now c.sync.new.self new c.sync.ensures.call.time (c.in-Ok.ensures.done told) c.sync.ensures.one_made (no_fewer _ _ (c.shown.ensures.reads.none_made ∙ c.pending.ensures.reads.none_made))) since (c.shown.ensures.reads.kept ∙ c.pending.ensures.reads.kept) c.shown.ensures.early
    (λ none. let decide = (shown_of (g.F.Source.outside.state c.sync.new.self).held (g.C.Operation.effect c.args.operation.now) c.in-Ok-pending.found (c.in-Ok-pending.ensures.found (c.sync.ensures.call.same_kind ∙ told)) (next_as (g.C.Operation.effect c.args.operation.now) c.effect.result c.in-Ok-pending.found _ c.phase_behind.result c.effect.ensures c.phase_behind.ensures c.in-Show.is)) in (decide.0, decide.1))

pub returns-in-Show-clause-comes : goal.returns-in-Show-clause-comes
returns-in-Show-clause-comes g c = λ told.
    let o = g.F.Source.outside in
    let sane = g.met.F.Source.sane in
    let at = c.pending.new.folder in
    let time = elapses_kept o sane c.args.folder.now c.sync.new.self at c.sync.ensures.call.time c.pending.ensures.reads.call.time c.pending.ensures.reads.kept in
    let is_synced = c.pending.ensures.reads.kept ∙ c.in-Ok.ensures.done told in
    let told_at = c.pending.ensures.reads.call.same_kind ∙ c.sync.ensures.call.same_kind ∙ told in
    comes_shown g.P.Spawner.running c.args.spawner.now (g.C.Operation.effect c.args.operation.now) (g.C.Operation.decides c.args.operation.now (g.S.Source.outside.tells c.args.source.now) (g.S.Source.outside.state c.args.source.now).held) _ _ _ _ (g.F.Source.outside.state c.pending.new.folder).held _ ((ap (λ (s : State). s.held) c.pending.ensures.reads.kept) ∙ (ap (λ (s : State). s.held) (c.in-Ok.ensures.done told))) c.in-Ok-pending.found (subst (λ (t : Image). IsPending t c.in-Ok-pending.found) (sym (ap (λ (s : State). s.held) c.pending.ensures.reads.kept)) (c.in-Ok-pending.ensures.found (c.sync.ensures.call.same_kind ∙ told))) c.shown.result (next_as (g.C.Operation.effect c.args.operation.now) c.effect.result c.in-Ok-pending.found _ c.phase_behind.result c.effect.ensures c.phase_behind.ensures c.in-Show.is) (c.shown.ensures.unready told_at) (leaves_same _ _ _ c.shown.result c.shown.ensures.unstaged (ap (λ (s : State). s.held) c.shown.ensures.reads.kept))

pub request-requires-clause-shut : goal.request-requires-clause-shut
request-requires-clause-shut g c = λ told.
    let told_at = sym c.pending.ensures.reads.call.same_kind ∙ told in
    let found = c.in-Ok-pending.ensures.found told_at in
    ap (λ (s : State). s.held.look gate_name) c.pending.ensures.reads.kept ∙ (changed_of (g.F.Source.outside.state c.sync.new.self).held (g.C.Operation.effect c.args.operation.now) c.in-Ok-pending.found found (next_as (g.C.Operation.effect c.args.operation.now) c.effect.result c.in-Ok-pending.found _ c.phase_behind.result c.effect.ensures c.phase_behind.ensures c.in-Change.is)).0

pub returns-in-Change-clause-run : goal.returns-in-Change-clause-run
returns-in-Change-clause-run g c = λ told.
    let o = g.F.Source.outside in
    let sane = g.met.F.Source.sane in
    let at = c.pending.new.folder in
    let time = elapses_kept o sane c.args.folder.now c.sync.new.self at c.sync.ensures.call.time c.pending.ensures.reads.call.time c.pending.ensures.reads.kept in
    let is_synced = c.pending.ensures.reads.kept ∙ c.in-Ok.ensures.done told in
    let told_at = c.pending.ensures.reads.call.same_kind ∙ c.sync.ensures.call.same_kind ∙ told in
    let changes = change_is (g.C.Operation.effect c.args.operation.now) c.in-Ok-pending.found (next_as (g.C.Operation.effect c.args.operation.now) c.effect.result c.in-Ok-pending.found _ c.phase_behind.result c.effect.ensures c.phase_behind.ensures c.in-Change.is) in
    let decide = (changed_of (g.F.Source.outside.state c.sync.new.self).held (g.C.Operation.effect c.args.operation.now) c.in-Ok-pending.found (c.in-Ok-pending.ensures.found (c.sync.ensures.call.same_kind ∙ told)) (next_as (g.C.Operation.effect c.args.operation.now) c.effect.result c.in-Ok-pending.found _ c.phase_behind.result c.effect.ensures c.phase_behind.ensures c.in-Change.is)) in
    run_asked o sane _ (g.C.Operation.effect c.args.operation.now) c.request.result _ _ c.args.folder.now at c.request.new.folder time is_synced
    (opened o sane c.args.folder.now at c.request.new.folder time is_synced (one_before _ _ _ c.sync.ensures.one_made c.pending.ensures.reads.none_made) c.request.ensures.later)
    changes.0 (image_same (g.C.Operation.effect c.args.operation.now) (o.state c.args.folder.now).held changes.1) (λ fixing. subst (λ (s : State). IsBare s.held) (sym c.pending.ensures.reads.kept) (decide.1 fixing))
    (c.request.ensures.asked told_at (synced_safe (o.state c.args.folder.now) (o.state at) is_synced))

pub returns-in-Change-clause-comes : goal.returns-in-Change-clause-comes
returns-in-Change-clause-comes g c = λ told.
    let o = g.F.Source.outside in
    let sane = g.met.F.Source.sane in
    let at = c.pending.new.folder in
    let time = elapses_kept o sane c.args.folder.now c.sync.new.self at c.sync.ensures.call.time c.pending.ensures.reads.call.time c.pending.ensures.reads.kept in
    let is_synced = c.pending.ensures.reads.kept ∙ c.in-Ok.ensures.done told in
    let told_at = c.pending.ensures.reads.call.same_kind ∙ c.sync.ensures.call.same_kind ∙ told in
    comes_asked g.P.Spawner.running c.args.spawner.now (g.C.Operation.effect c.args.operation.now) (g.C.Operation.decides c.args.operation.now (g.S.Source.outside.tells c.args.source.now) (g.S.Source.outside.state c.args.source.now).held) _ _ _ _ (g.F.Source.outside.state c.pending.new.folder).held _ ((ap (λ (s : State). s.held) c.pending.ensures.reads.kept) ∙ (ap (λ (s : State). s.held) (c.in-Ok.ensures.done told))) c.in-Ok-pending.found (subst (λ (t : Image). IsPending t c.in-Ok-pending.found) (sym (ap (λ (s : State). s.held) c.pending.ensures.reads.kept)) (c.in-Ok-pending.ensures.found (c.sync.ensures.call.same_kind ∙ told))) _ _ c.request.result (next_as (g.C.Operation.effect c.args.operation.now) c.effect.result c.in-Ok-pending.found _ c.phase_behind.result c.effect.ensures c.phase_behind.ensures c.in-Change.is) (c.request.ensures.comes told_at)

pub returns-in-Change-clause-begun : goal.returns-in-Change-clause-begun
returns-in-Change-clause-begun g c = λ told left.
    let o = g.F.Source.outside in
    let sane = g.met.F.Source.sane in
    let at = c.pending.new.folder in
    let time = elapses_kept o sane c.args.folder.now c.sync.new.self at c.sync.ensures.call.time c.pending.ensures.reads.call.time c.pending.ensures.reads.kept in
    let is_synced = c.pending.ensures.reads.kept ∙ c.in-Ok.ensures.done told in
    let told_at = c.pending.ensures.reads.call.same_kind ∙ c.sync.ensures.call.same_kind ∙ told in
    inl (failed_since o c.args.folder.now at c.request.new.folder (since_opened o c.args.folder.now c.sync.new.self at time.later c.sync.ensures.call.cause.later c.pending.ensures.reads.call.cause.later c.sync.ensures.one_made.later c.pending.ensures.reads.none_made)
    (c.request.ensures.begun told_at (synced_safe (o.state c.args.folder.now) (o.state at) is_synced) left))

pub returns-in-Change-clause-shows : goal.returns-in-Change-clause-shows
returns-in-Change-clause-shows g c = λ is. absurd (clash (shows (g.C.Operation.effect c.args.operation.now)) is (change_is (g.C.Operation.effect c.args.operation.now) c.in-Ok-pending.found (next_as (g.C.Operation.effect c.args.operation.now) c.effect.result c.in-Ok-pending.found _ c.phase_behind.result c.effect.ensures c.phase_behind.ensures c.in-Change.is)).0)

pub returns-in-Change-clause-untouched : goal.returns-in-Change-clause-untouched
returns-in-Change-clause-untouched g c = λ told there refused.
    absurd (there (ap (λ (s : State). s.held.look gate_name) (sym (c.in-Ok.ensures.done told)) ∙ (changed_of (g.F.Source.outside.state c.sync.new.self).held (g.C.Operation.effect c.args.operation.now) c.in-Ok-pending.found (c.in-Ok-pending.ensures.found (c.sync.ensures.call.same_kind ∙ told)) (next_as (g.C.Operation.effect c.args.operation.now) c.effect.result c.in-Ok-pending.found _ c.phase_behind.result c.effect.ensures c.phase_behind.ensures c.in-Change.is)).0))

pub returns-in_default-clause-shows_kept : goal.returns-in_default-clause-shows_kept
returns-in_default-clause-shows_kept g c = λ told is. inl c.in_default.ensures.kept

pub returns-in_default-clause-untouched_kept : goal.returns-in_default-clause-untouched_kept
returns-in_default-clause-untouched_kept g c = λ told there refused. inl c.in_default.ensures.kept

pub returns-in-Err-Bad-clause-shows_kept : goal.returns-in-Err-Bad-clause-shows_kept
returns-in-Err-Bad-clause-shows_kept g c = λ told is. inr (c.pending.ensures.reads.kept ∙ c.in-Ok.ensures.done told)

pub returns-in-Err-Bad-clause-untouched_kept : goal.returns-in-Err-Bad-clause-untouched_kept
returns-in-Err-Bad-clause-untouched_kept g c = λ told there refused. inr (c.pending.ensures.reads.kept ∙ c.in-Ok.ensures.done told)

pub returns-in-Err-OutOfMemory-clause-shows_kept : goal.returns-in-Err-OutOfMemory-clause-shows_kept
returns-in-Err-OutOfMemory-clause-shows_kept g c = λ told is. inr (c.pending.ensures.reads.kept ∙ c.in-Ok.ensures.done told)

pub returns-in-Err-OutOfMemory-clause-untouched_kept : goal.returns-in-Err-OutOfMemory-clause-untouched_kept
returns-in-Err-OutOfMemory-clause-untouched_kept g c = λ told there refused. inr (c.pending.ensures.reads.kept ∙ c.in-Ok.ensures.done told)

pub returns-in-Refuse-clause-shows_kept : goal.returns-in-Refuse-clause-shows_kept
returns-in-Refuse-clause-shows_kept g c = λ told is. inr (c.pending.ensures.reads.kept ∙ c.in-Ok.ensures.done told)

pub returns-in-Refuse-clause-untouched_kept : goal.returns-in-Refuse-clause-untouched_kept
returns-in-Refuse-clause-untouched_kept g c = λ told there refused. inr (c.pending.ensures.reads.kept ∙ c.in-Ok.ensures.done told)

pub returns-in-Show-clause-shows_kept : goal.returns-in-Show-clause-shows_kept
returns-in-Show-clause-shows_kept g c = λ told is. inr (c.shown.ensures.reads.kept ∙ c.pending.ensures.reads.kept ∙ c.in-Ok.ensures.done told)

pub returns-in-Show-clause-untouched_kept : goal.returns-in-Show-clause-untouched_kept
returns-in-Show-clause-untouched_kept g c = λ told there refused. inr (c.shown.ensures.reads.kept ∙ c.pending.ensures.reads.kept ∙ c.in-Ok.ensures.done told)

pub returns-in-Recover-clause-shows_kept : goal.returns-in-Recover-clause-shows_kept
returns-in-Recover-clause-shows_kept g c = λ told is. absurd (clash (shows (g.C.Operation.effect c.args.operation.now)) is (recover_is (g.C.Operation.effect c.args.operation.now) c.in-Ok-pending.found (next_as (g.C.Operation.effect c.args.operation.now) c.effect.result c.in-Ok-pending.found _ c.phase_behind.result c.effect.ensures c.phase_behind.ensures c.in-Recover.is)))

pub returns-in-Recover-clause-untouched_kept : goal.returns-in-Recover-clause-untouched_kept
returns-in-Recover-clause-untouched_kept g c = λ told there refused.
    let is_synced = c.pending.ensures.reads.kept ∙ c.in-Ok.ensures.done told in
    let told_at = c.pending.ensures.reads.call.same_kind ∙ c.sync.ensures.call.same_kind ∙ told in
    inr (c.recovered.ensures.kept told_at (λ shut. there (ap (λ (s : State). s.held.look gate_name) (sym is_synced) ∙ shut)) refused ∙ is_synced)

pub returns-in-Change-clause-shows_kept : goal.returns-in-Change-clause-shows_kept
returns-in-Change-clause-shows_kept g c = λ told is. absurd (clash (shows (g.C.Operation.effect c.args.operation.now)) is (change_is (g.C.Operation.effect c.args.operation.now) c.in-Ok-pending.found (next_as (g.C.Operation.effect c.args.operation.now) c.effect.result c.in-Ok-pending.found _ c.phase_behind.result c.effect.ensures c.phase_behind.ensures c.in-Change.is)).0)

pub returns-in-Change-clause-untouched_kept : goal.returns-in-Change-clause-untouched_kept
returns-in-Change-clause-untouched_kept g c = λ told there refused.
    absurd (there (ap (λ (s : State). s.held.look gate_name) (sym (c.in-Ok.ensures.done told)) ∙ (changed_of (g.F.Source.outside.state c.sync.new.self).held (g.C.Operation.effect c.args.operation.now) c.in-Ok-pending.found (c.in-Ok-pending.ensures.found (c.sync.ensures.call.same_kind ∙ told)) (next_as (g.C.Operation.effect c.args.operation.now) c.effect.result c.in-Ok-pending.found _ c.phase_behind.result c.effect.ensures c.phase_behind.ensures c.in-Change.is)).0))

pub returns-in-Change-clause-shows_unasked : goal.returns-in-Change-clause-shows_unasked
returns-in-Change-clause-shows_unasked g c = λ is. absurd (clash (shows (g.C.Operation.effect c.args.operation.now)) is (change_is (g.C.Operation.effect c.args.operation.now) c.in-Ok-pending.found (next_as (g.C.Operation.effect c.args.operation.now) c.effect.result c.in-Ok-pending.found _ c.phase_behind.result c.effect.ensures c.phase_behind.ensures c.in-Change.is)).0)

pub returns-in-Change-clause-shows_unspawned : goal.returns-in-Change-clause-shows_unspawned
returns-in-Change-clause-shows_unspawned g c = λ is. absurd (clash (shows (g.C.Operation.effect c.args.operation.now)) is (change_is (g.C.Operation.effect c.args.operation.now) c.in-Ok-pending.found (next_as (g.C.Operation.effect c.args.operation.now) c.effect.result c.in-Ok-pending.found _ c.phase_behind.result c.effect.ensures c.phase_behind.ensures c.in-Change.is)).0)

pub returns-in-Show-clause-shows_unasked : goal.returns-in-Show-clause-shows_unasked
returns-in-Show-clause-shows_unasked g c = λ is. c.shown.ensures.unasked

pub returns-in-Show-clause-shows_unspawned : goal.returns-in-Show-clause-shows_unspawned
returns-in-Show-clause-shows_unspawned g c = λ is. c.shown.ensures.early.unspawned

pub create-requires-clause-safe : goal.create-requires-clause-safe
create-requires-clause-safe g c = λ told.
    let is_synced = c.pending.ensures.reads.kept ∙ c.in-Ok.ensures.done (sym c.sync.ensures.call.same_kind ∙ sym c.pending.ensures.reads.call.same_kind ∙ told) in
    as_settled (g.F.Source.outside.state c.args.folder.now) (g.F.Source.outside.state c.pending.new.folder) is_synced

pub create-requires-clause-shut : goal.create-requires-clause-shut
create-requires-clause-shut g c = λ told.
    let told_at = sym c.pending.ensures.reads.call.same_kind ∙ told in
    ap (λ (s : State). s.held.look gate_name) c.pending.ensures.reads.kept ∙ (created_of (g.F.Source.outside.state c.sync.new.self).held (g.C.Operation.effect c.args.operation.now) c.in-Ok-pending.found (c.in-Ok-pending.ensures.found told_at) (next_as (g.C.Operation.effect c.args.operation.now) c.effect.result c.in-Ok-pending.found _ c.phase_behind.result c.effect.ensures c.phase_behind.ensures c.in-Create.is)).1

pub create-requires-clause-creates : goal.create-requires-clause-creates
create-requires-clause-creates g c = (create_is (g.C.Operation.effect c.args.operation.now) c.in-Ok-pending.found (next_as (g.C.Operation.effect c.args.operation.now) c.effect.result c.in-Ok-pending.found _ c.phase_behind.result c.effect.ensures c.phase_behind.ensures c.in-Create.is)).0

pub returns-in-Create-clause-run : goal.returns-in-Create-clause-run
returns-in-Create-clause-run g c = λ told.
    let o = g.F.Source.outside in
    let sane = g.met.F.Source.sane in
    let at = c.pending.new.folder in
    let time = elapses_kept o sane c.args.folder.now c.sync.new.self at c.sync.ensures.call.time c.pending.ensures.reads.call.time c.pending.ensures.reads.kept in
    let is_synced = c.pending.ensures.reads.kept ∙ c.in-Ok.ensures.done told in
    let told_at = c.pending.ensures.reads.call.same_kind ∙ c.sync.ensures.call.same_kind ∙ told in
    let creates = (create_is (g.C.Operation.effect c.args.operation.now) c.in-Ok-pending.found (next_as (g.C.Operation.effect c.args.operation.now) c.effect.result c.in-Ok-pending.found _ c.phase_behind.result c.effect.ensures c.phase_behind.ensures c.in-Create.is)) in
    let gate = ap (λ (s : State). s.held.look gate_name) c.pending.ensures.reads.kept ∙ (created_of (g.F.Source.outside.state c.sync.new.self).held (g.C.Operation.effect c.args.operation.now) c.in-Ok-pending.found (c.in-Ok-pending.ensures.found (c.sync.ensures.call.same_kind ∙ told)) (next_as (g.C.Operation.effect c.args.operation.now) c.effect.result c.in-Ok-pending.found _ c.phase_behind.result c.effect.ensures c.phase_behind.ensures c.in-Create.is)).1 in
    run_created o sane _ (g.C.Operation.effect c.args.operation.now) c.create.result _ _ creates.0 creates.1 c.args.folder.now at c.create.new.folder time is_synced
    (opened o sane c.args.folder.now at c.create.new.folder time is_synced (one_before _ _ _ c.sync.ensures.one_made c.pending.ensures.reads.none_made) c.create.ensures.later) gate (c.create.ensures.created told_at)

pub returns-in-Create-clause-comes : goal.returns-in-Create-clause-comes
returns-in-Create-clause-comes g c = λ told.
    let o = g.F.Source.outside in
    let sane = g.met.F.Source.sane in
    let at = c.pending.new.folder in
    let time = elapses_kept o sane c.args.folder.now c.sync.new.self at c.sync.ensures.call.time c.pending.ensures.reads.call.time c.pending.ensures.reads.kept in
    let is_synced = c.pending.ensures.reads.kept ∙ c.in-Ok.ensures.done told in
    let told_at = c.pending.ensures.reads.call.same_kind ∙ c.sync.ensures.call.same_kind ∙ told in
    comes_created g.P.Spawner.running c.args.spawner.now (g.C.Operation.effect c.args.operation.now) (g.C.Operation.decides c.args.operation.now (g.S.Source.outside.tells c.args.source.now) (g.S.Source.outside.state c.args.source.now).held) _ _ _ _ (o.state at).held _ (ap (λ (s : State). s.held) is_synced) c.in-Ok-pending.found
    (subst (λ (t : Image). IsPending t c.in-Ok-pending.found) (sym (ap (λ (s : State). s.held) c.pending.ensures.reads.kept)) (c.in-Ok-pending.ensures.found (c.sync.ensures.call.same_kind ∙ told))) _ _ c.create.result (next_as (g.C.Operation.effect c.args.operation.now) c.effect.result c.in-Ok-pending.found _ c.phase_behind.result c.effect.ensures c.phase_behind.ensures c.in-Create.is) (c.create.ensures.comes told_at)

pub returns-in-Create-clause-begun : goal.returns-in-Create-clause-begun
returns-in-Create-clause-begun g c = λ told left.
    let o = g.F.Source.outside in
    let sane = g.met.F.Source.sane in
    let at = c.pending.new.folder in
    let time = elapses_kept o sane c.args.folder.now c.sync.new.self at c.sync.ensures.call.time c.pending.ensures.reads.call.time c.pending.ensures.reads.kept in
    inl (failed_since o c.args.folder.now at c.create.new.folder (since_opened o c.args.folder.now c.sync.new.self at time.later c.sync.ensures.call.cause.later c.pending.ensures.reads.call.cause.later c.sync.ensures.one_made.later c.pending.ensures.reads.none_made)
    (c.create.ensures.begun (c.pending.ensures.reads.call.same_kind ∙ c.sync.ensures.call.same_kind ∙ told) left))

pub returns-in-Create-clause-shows : goal.returns-in-Create-clause-shows
returns-in-Create-clause-shows g c = λ is. absurd (clash (shows (g.C.Operation.effect c.args.operation.now)) is (create_is (g.C.Operation.effect c.args.operation.now) c.in-Ok-pending.found (next_as (g.C.Operation.effect c.args.operation.now) c.effect.result c.in-Ok-pending.found _ c.phase_behind.result c.effect.ensures c.phase_behind.ensures c.in-Create.is)).1)

pub returns-in-Create-clause-shows_unasked : goal.returns-in-Create-clause-shows_unasked
returns-in-Create-clause-shows_unasked g c = λ is. absurd (clash (shows (g.C.Operation.effect c.args.operation.now)) is (create_is (g.C.Operation.effect c.args.operation.now) c.in-Ok-pending.found (next_as (g.C.Operation.effect c.args.operation.now) c.effect.result c.in-Ok-pending.found _ c.phase_behind.result c.effect.ensures c.phase_behind.ensures c.in-Create.is)).1)

pub returns-in-Create-clause-shows_unspawned : goal.returns-in-Create-clause-shows_unspawned
returns-in-Create-clause-shows_unspawned g c = λ is. absurd (clash (shows (g.C.Operation.effect c.args.operation.now)) is (create_is (g.C.Operation.effect c.args.operation.now) c.in-Ok-pending.found (next_as (g.C.Operation.effect c.args.operation.now) c.effect.result c.in-Ok-pending.found _ c.phase_behind.result c.effect.ensures c.phase_behind.ensures c.in-Create.is)).1)

pub returns-in-Create-clause-shows_kept : goal.returns-in-Create-clause-shows_kept
returns-in-Create-clause-shows_kept g c = λ told is. absurd (clash (shows (g.C.Operation.effect c.args.operation.now)) is (create_is (g.C.Operation.effect c.args.operation.now) c.in-Ok-pending.found (next_as (g.C.Operation.effect c.args.operation.now) c.effect.result c.in-Ok-pending.found _ c.phase_behind.result c.effect.ensures c.phase_behind.ensures c.in-Create.is)).1)

pub returns-in-Create-clause-untouched : goal.returns-in-Create-clause-untouched
returns-in-Create-clause-untouched g c = λ told there refused.
    absurd (there (ap (λ (s : State). s.held.look gate_name) (sym (c.in-Ok.ensures.done told)) ∙ (created_of (g.F.Source.outside.state c.sync.new.self).held (g.C.Operation.effect c.args.operation.now) c.in-Ok-pending.found (c.in-Ok-pending.ensures.found (c.sync.ensures.call.same_kind ∙ told)) (next_as (g.C.Operation.effect c.args.operation.now) c.effect.result c.in-Ok-pending.found _ c.phase_behind.result c.effect.ensures c.phase_behind.ensures c.in-Create.is)).1))

pub returns-in-Create-clause-untouched_kept : goal.returns-in-Create-clause-untouched_kept
returns-in-Create-clause-untouched_kept g c = λ told there refused.
    absurd (there (ap (λ (s : State). s.held.look gate_name) (sym (c.in-Ok.ensures.done told)) ∙ (created_of (g.F.Source.outside.state c.sync.new.self).held (g.C.Operation.effect c.args.operation.now) c.in-Ok-pending.found (c.in-Ok-pending.ensures.found (c.sync.ensures.call.same_kind ∙ told)) (next_as (g.C.Operation.effect c.args.operation.now) c.effect.result c.in-Ok-pending.found _ c.phase_behind.result c.effect.ensures c.phase_behind.ensures c.in-Create.is)).1))

pub returns-in_default-clause-unbegun : goal.returns-in_default-clause-unbegun
returns-in_default-clause-unbegun g c = λ told making fixing failed. inl (inl c.in_default.ensures.kept)

pub returns-in-Err-Bad-clause-unbegun : goal.returns-in-Err-Bad-clause-unbegun
returns-in-Err-Bad-clause-unbegun g c = λ told making fixing failed.
    let o = g.F.Source.outside in
    inl (unbegun_read (o.state c.args.folder.now) (o.state c.pending.new.folder) (c.pending.ensures.reads.kept ∙ c.in-Ok.ensures.done told))

pub returns-in-Recover-clause-unbegun : goal.returns-in-Recover-clause-unbegun
returns-in-Recover-clause-unbegun g c = λ told making fixing failed.
    let o = g.F.Source.outside in
    absurd (never_recovers (o.state c.sync.new.self).held (g.C.Operation.effect c.args.operation.now) c.in-Ok-pending.found (c.in-Ok-pending.ensures.found (c.sync.ensures.call.same_kind ∙ told)) (next_as (g.C.Operation.effect c.args.operation.now) c.effect.result c.in-Ok-pending.found _ c.phase_behind.result c.effect.ensures c.phase_behind.ensures c.in-Recover.is)
    (λ fixes. subst (λ (s : State). IsBare s.held) (sym (c.in-Ok.ensures.done told)) (fixing fixes)))

pub returns-in-Show-clause-unbegun : goal.returns-in-Show-clause-unbegun
returns-in-Show-clause-unbegun g c = λ told making fixing failed.
    let o = g.F.Source.outside in
    inl (unbegun_read (o.state c.args.folder.now) (o.state c.shown.new.folder) (c.shown.ensures.reads.kept ∙ c.pending.ensures.reads.kept ∙ c.in-Ok.ensures.done told))

pub returns-in-Change-clause-unbegun : goal.returns-in-Change-clause-unbegun
returns-in-Change-clause-unbegun g c = λ told making fixing failed.
    let o = g.F.Source.outside in
    let sane = g.met.F.Source.sane in
    let n = g.C.Operation.effect c.args.operation.now in
    let old = c.args.folder.now in
    let at = c.pending.new.folder in
    let time = elapses_kept o sane old c.sync.new.self at c.sync.ensures.call.time c.pending.ensures.reads.call.time c.pending.ensures.reads.kept in
    let is_synced = c.pending.ensures.reads.kept ∙ c.in-Ok.ensures.done told in
    let told_at = c.pending.ensures.reads.call.same_kind ∙ c.sync.ensures.call.same_kind ∙ told in
    let other = (change_is n c.in-Ok-pending.found (next_as n c.effect.result c.in-Ok-pending.found _ c.phase_behind.result c.effect.ensures c.phase_behind.ensures c.in-Change.is)).1 in
    let D = g.C.Operation.decides c.args.operation.now (g.S.Source.outside.tells c.args.source.now) (g.S.Source.outside.state c.args.source.now).held in
    ⊎_elim (λ unbegun. inl (unbegun_settled (o.state old) (o.state at) (o.state c.request.new.folder) is_synced unbegun))
    (λ left. inr (left_since o D _ _ _ old at c.request.new.folder (o.state at).held _ (ap (λ (s : State). s.held) is_synced ∙ sym (image_same n (o.state old).held other))
    (since_opened o old c.sync.new.self at time.later c.sync.ensures.call.cause.later c.pending.ensures.reads.call.cause.later c.sync.ensures.one_made.later c.pending.ensures.reads.none_made) left))
    (c.request.ensures.unbegun told_at (synced_safe (o.state old) (o.state at) is_synced) failed)

pub returns-in-Create-clause-unbegun : goal.returns-in-Create-clause-unbegun
returns-in-Create-clause-unbegun g c = λ told making fixing failed.
    absurd (clash (creates (g.C.Operation.effect c.args.operation.now)) (create_is (g.C.Operation.effect c.args.operation.now) c.in-Ok-pending.found (next_as (g.C.Operation.effect c.args.operation.now) c.effect.result c.in-Ok-pending.found _ c.phase_behind.result c.effect.ensures c.phase_behind.ensures c.in-Create.is)).0 making)

pub returns-in_default-clause-unopened : goal.returns-in_default-clause-unopened
returns-in_default-clause-unopened g c = λ told shut refused. never_synced g.F.Source.outside g.met.F.Source.sane (g.C.Operation.effect c.args.operation.now) c.args.folder.now c.sync.new.self c.sync.ensures.call.time c.in_default.ensures.kept

pub returns-in-Err-Bad-clause-unopened : goal.returns-in-Err-Bad-clause-unopened
returns-in-Err-Bad-clause-unopened g c = λ told shut refused.
    never_read g.F.Source.outside g.met.F.Source.sane (g.C.Operation.effect c.args.operation.now) c.args.folder.now c.sync.new.self c.pending.new.folder c.sync.ensures.call.time (c.in-Ok.ensures.done told) c.sync.ensures.one_made (no_fewer _ _ c.pending.ensures.reads.none_made) shut
    c.pending.ensures.reads.call.time c.pending.ensures.reads.kept

pub returns-in-Err-OutOfMemory-clause-unopened : goal.returns-in-Err-OutOfMemory-clause-unopened
returns-in-Err-OutOfMemory-clause-unopened g c = λ told shut refused.
    never_read g.F.Source.outside g.met.F.Source.sane (g.C.Operation.effect c.args.operation.now) c.args.folder.now c.sync.new.self c.pending.new.folder c.sync.ensures.call.time (c.in-Ok.ensures.done told) c.sync.ensures.one_made (no_fewer _ _ c.pending.ensures.reads.none_made) shut
    c.pending.ensures.reads.call.time c.pending.ensures.reads.kept

pub returns-in-Refuse-clause-unopened : goal.returns-in-Refuse-clause-unopened
returns-in-Refuse-clause-unopened g c = λ told shut refused.
    never_read g.F.Source.outside g.met.F.Source.sane (g.C.Operation.effect c.args.operation.now) c.args.folder.now c.sync.new.self c.pending.new.folder c.sync.ensures.call.time (c.in-Ok.ensures.done told) c.sync.ensures.one_made (no_fewer _ _ c.pending.ensures.reads.none_made) shut
    c.pending.ensures.reads.call.time c.pending.ensures.reads.kept

pub returns-in-Recover-clause-unopened : goal.returns-in-Recover-clause-unopened
returns-in-Recover-clause-unopened g c = λ told shut refused.
    let o = g.F.Source.outside in
    let sane = g.met.F.Source.sane in
    let at = c.pending.new.folder in
    let time = elapses_kept o sane c.args.folder.now c.sync.new.self at c.sync.ensures.call.time c.pending.ensures.reads.call.time c.pending.ensures.reads.kept in
    let is_synced = c.pending.ensures.reads.kept ∙ c.in-Ok.ensures.done told in
    let told_at = c.pending.ensures.reads.call.same_kind ∙ c.sync.ensures.call.same_kind ∙ told in
    never_back o sane (g.C.Operation.effect c.args.operation.now) c.args.folder.now at c.recovered.new.folder time is_synced (one_before _ _ _ c.sync.ensures.one_made c.pending.ensures.reads.none_made) c.recovered.ensures.later shut (c.recovered.ensures.back told_at).still

pub returns-in-Show-clause-unopened : goal.returns-in-Show-clause-unopened
returns-in-Show-clause-unopened g c = λ told shut refused.
    let o = g.F.Source.outside in
    let sane = g.met.F.Source.sane in
    let at = c.pending.new.folder in
    let time = elapses_kept o sane c.args.folder.now c.sync.new.self at c.sync.ensures.call.time c.pending.ensures.reads.call.time c.pending.ensures.reads.kept in
    let is_synced = c.pending.ensures.reads.kept ∙ c.in-Ok.ensures.done told in
    never_read o sane (g.C.Operation.effect c.args.operation.now) c.args.folder.now at c.shown.new.folder time is_synced (one_before _ _ _ c.sync.ensures.one_made c.pending.ensures.reads.none_made) (no_fewer _ _ c.shown.ensures.reads.none_made) shut
    c.shown.ensures.reads.call.time c.shown.ensures.reads.kept

pub returns-in-Change-clause-unopened : goal.returns-in-Change-clause-unopened
returns-in-Change-clause-unopened g c = λ told shut refused.
    let o = g.F.Source.outside in
    let sane = g.met.F.Source.sane in
    let at = c.pending.new.folder in
    let time = elapses_kept o sane c.args.folder.now c.sync.new.self at c.sync.ensures.call.time c.pending.ensures.reads.call.time c.pending.ensures.reads.kept in
    let is_synced = c.pending.ensures.reads.kept ∙ c.in-Ok.ensures.done told in
    let told_at = c.pending.ensures.reads.call.same_kind ∙ c.sync.ensures.call.same_kind ∙ told in
    never_asked o sane (g.C.Operation.effect c.args.operation.now) c.args.folder.now at c.request.new.folder time is_synced (one_before _ _ _ c.sync.ensures.one_made c.pending.ensures.reads.none_made) c.request.ensures.later
    ((c.request.ensures.asked told_at (synced_safe (o.state c.args.folder.now) (o.state at) is_synced)).unopened refused)

pub returns-in-Create-clause-unopened : goal.returns-in-Create-clause-unopened
returns-in-Create-clause-unopened g c = λ told shut refused.
    let o = g.F.Source.outside in
    let sane = g.met.F.Source.sane in
    let at = c.pending.new.folder in
    let time = elapses_kept o sane c.args.folder.now c.sync.new.self at c.sync.ensures.call.time c.pending.ensures.reads.call.time c.pending.ensures.reads.kept in
    let is_synced = c.pending.ensures.reads.kept ∙ c.in-Ok.ensures.done told in
    let told_at = c.pending.ensures.reads.call.same_kind ∙ c.sync.ensures.call.same_kind ∙ told in
    let creating = (create_is (g.C.Operation.effect c.args.operation.now) c.in-Ok-pending.found (next_as (g.C.Operation.effect c.args.operation.now) c.effect.result c.in-Ok-pending.found _ c.phase_behind.result c.effect.ensures c.phase_behind.ensures c.in-Create.is)).0 in
    never_created o sane (g.C.Operation.effect c.args.operation.now) c.args.folder.now at c.create.new.folder time is_synced (one_before _ _ _ c.sync.ensures.one_made c.pending.ensures.reads.none_made) c.create.ensures.later shut
    _ c.create.result _ _ creating refused (c.create.ensures.created told_at)

pub returns-in-Recover-clause-listed : goal.returns-in-Recover-clause-listed
returns-in-Recover-clause-listed g c = λ told done.
    let told_at = c.pending.ensures.reads.call.same_kind ∙ c.sync.ensures.call.same_kind ∙ told in
    absurd (clash (is_done c.recovered.result) done (c.recovered.ensures.back told_at).undone)

pub returns-in-Show-clause-listed : goal.returns-in-Show-clause-listed
returns-in-Show-clause-listed g c = λ told done. absurd (clash (is_done c.shown.result) done c.shown.ensures.early.undone)

pub returns-in-Change-clause-listed : goal.returns-in-Change-clause-listed
returns-in-Change-clause-listed g c = λ told done.
    let o = g.F.Source.outside in
    let sane = g.met.F.Source.sane in
    let n = g.C.Operation.effect c.args.operation.now in
    let old = c.args.folder.now in
    let at = c.pending.new.folder in
    let time = elapses_kept o sane old c.sync.new.self at c.sync.ensures.call.time c.pending.ensures.reads.call.time c.pending.ensures.reads.kept in
    let is_synced = c.pending.ensures.reads.kept ∙ c.in-Ok.ensures.done told in
    let told_at = c.pending.ensures.reads.call.same_kind ∙ c.sync.ensures.call.same_kind ∙ told in
    let other = (change_is n c.in-Ok-pending.found (next_as n c.effect.result c.in-Ok-pending.found _ c.phase_behind.result c.effect.ensures c.phase_behind.ensures c.in-Change.is)).1 in
    let D = g.C.Operation.decides c.args.operation.now (g.S.Source.outside.tells c.args.source.now) (g.S.Source.outside.state c.args.source.now).held in
    listed_since o _ c.request.result _ _ old at c.request.new.folder (since_opened o old c.sync.new.self at time.later c.sync.ensures.call.cause.later c.pending.ensures.reads.call.cause.later c.sync.ensures.one_made.later c.pending.ensures.reads.none_made)
    (listed_on o D c.request.result _ _ at c.request.new.folder (o.state at).held _ (ap (λ (s : State). s.held) is_synced ∙ sym (image_same n (o.state old).held other))
    (c.request.ensures.listed told_at (synced_safe (o.state old) (o.state at) is_synced) done))

pub returns-in-Create-clause-listed : goal.returns-in-Create-clause-listed
returns-in-Create-clause-listed g c = λ told done.
    let o = g.F.Source.outside in
    let sane = g.met.F.Source.sane in
    let n = g.C.Operation.effect c.args.operation.now in
    let old = c.args.folder.now in
    let at = c.pending.new.folder in
    let time = elapses_kept o sane old c.sync.new.self at c.sync.ensures.call.time c.pending.ensures.reads.call.time c.pending.ensures.reads.kept in
    let is_synced = c.pending.ensures.reads.kept ∙ c.in-Ok.ensures.done told in
    let told_at = c.pending.ensures.reads.call.same_kind ∙ c.sync.ensures.call.same_kind ∙ told in
    let making = (create_is n c.in-Ok-pending.found (next_as n c.effect.result c.in-Ok-pending.found _ c.phase_behind.result c.effect.ensures c.phase_behind.ensures c.in-Create.is)).0 in
    let D = g.C.Operation.decides c.args.operation.now (g.S.Source.outside.tells c.args.source.now) (g.S.Source.outside.state c.args.source.now).held in
    listed_since o _ c.create.result _ _ old at c.create.new.folder (since_opened o old c.sync.new.self at time.later c.sync.ensures.call.cause.later c.pending.ensures.reads.call.cause.later c.sync.ensures.one_made.later c.pending.ensures.reads.none_made)
    (listed_on o D c.create.result _ _ at c.create.new.folder (with_directories (o.state at).held) _ (ap (λ (s : State). with_directories s.held) is_synced ∙ sym (image_with n (o.state old).held making))
    (c.create.ensures.listed told_at done))

pub returns-in_default-clause-left : goal.returns-in_default-clause-left
returns-in_default-clause-left g c = λ told. comes_leaving _ (returns-in_default-clause-comes g c told)

pub returns-in-Err-Bad-clause-left : goal.returns-in-Err-Bad-clause-left
returns-in-Err-Bad-clause-left g c = λ told. comes_leaving _ (returns-in-Err-Bad-clause-comes g c told)

pub returns-in-Err-OutOfMemory-clause-left : goal.returns-in-Err-OutOfMemory-clause-left
returns-in-Err-OutOfMemory-clause-left g c = λ told. comes_leaving _ (returns-in-Err-OutOfMemory-clause-comes g c told)

pub returns-in-Refuse-clause-left : goal.returns-in-Refuse-clause-left
returns-in-Refuse-clause-left g c = λ told. comes_leaving _ (returns-in-Refuse-clause-comes g c told)

pub returns-in-Recover-clause-left : goal.returns-in-Recover-clause-left
returns-in-Recover-clause-left g c = λ told. comes_leaving _ (returns-in-Recover-clause-comes g c told)

pub returns-in-Show-clause-left : goal.returns-in-Show-clause-left
returns-in-Show-clause-left g c = λ told. comes_leaving _ (returns-in-Show-clause-comes g c told)

pub returns-in-Change-clause-left : goal.returns-in-Change-clause-left
returns-in-Change-clause-left g c = λ told. comes_leaving _ (returns-in-Change-clause-comes g c told)

pub returns-in-Create-clause-left : goal.returns-in-Create-clause-left
returns-in-Create-clause-left g c = λ told. comes_leaving _ (returns-in-Create-clause-comes g c told)

pub returns-in_default-clause-source : goal.returns-in_default-clause-source
returns-in_default-clause-source g c = reads_with g.S.Source.outside _ _ _ _ (reads_none g.S.Source.outside c.args.source.now ⊥ (λ bad. bad)) (none_masked _ _ _ (λ is. cc))

pub returns-in_default-clause-spawner : goal.returns-in_default-clause-spawner
returns-in_default-clause-spawner g c = none_masked _ _ _ (λ is. cc)

pub returns-in-Err-Bad-clause-source : goal.returns-in-Err-Bad-clause-source
returns-in-Err-Bad-clause-source g c = reads_with g.S.Source.outside _ _ _ _ (reads_none g.S.Source.outside c.args.source.now ⊥ (λ bad. bad)) (none_masked _ _ _ (λ is. cc))

pub returns-in-Err-Bad-clause-spawner : goal.returns-in-Err-Bad-clause-spawner
returns-in-Err-Bad-clause-spawner g c = none_masked _ _ _ (λ is. cc)

pub returns-in-Err-OutOfMemory-clause-source : goal.returns-in-Err-OutOfMemory-clause-source
returns-in-Err-OutOfMemory-clause-source g c = reads_with g.S.Source.outside _ _ _ _ (reads_none g.S.Source.outside c.args.source.now ⊥ (λ bad. bad)) (none_masked _ _ _ (λ is. cc))

pub returns-in-Err-OutOfMemory-clause-spawner : goal.returns-in-Err-OutOfMemory-clause-spawner
returns-in-Err-OutOfMemory-clause-spawner g c = none_masked _ _ _ (λ is. cc)

pub returns-in-Refuse-clause-source : goal.returns-in-Refuse-clause-source
returns-in-Refuse-clause-source g c = reads_with g.S.Source.outside _ _ _ _ (reads_none g.S.Source.outside c.args.source.now ⊥ (λ bad. bad)) (none_masked _ _ _ (λ is. cc))

pub returns-in-Refuse-clause-spawner : goal.returns-in-Refuse-clause-spawner
returns-in-Refuse-clause-spawner g c = none_masked _ _ _ (λ is. cc)

pub returns-in-Recover-clause-source : goal.returns-in-Recover-clause-source
returns-in-Recover-clause-source g c = reads_with g.S.Source.outside _ _ _ _ (reads_none g.S.Source.outside c.args.source.now ⊥ (λ bad. bad)) (none_masked _ _ _ (λ is. clash (is_source_fault c.recovered.result) is c.recovered.ensures.read))

pub returns-in-Recover-clause-spawner : goal.returns-in-Recover-clause-spawner
returns-in-Recover-clause-spawner g c = none_masked _ _ _ (λ is. clash (is_spawn_fault c.recovered.result) is c.recovered.ensures.unspawned)

pub returns-in-Show-clause-source : goal.returns-in-Show-clause-source
returns-in-Show-clause-source g c = reads_with g.S.Source.outside _ _ _ _ c.shown.ensures.source (told_own _ _ _ _ c.shown.ensures.source.call.cause)

pub returns-in-Show-clause-spawner : goal.returns-in-Show-clause-spawner
returns-in-Show-clause-spawner g c = none_masked _ _ _ (λ is. clash (is_spawn_fault c.shown.result) is c.shown.ensures.early.unspawned)

pub returns-in-Change-clause-source : goal.returns-in-Change-clause-source
returns-in-Change-clause-source g c = reads_with g.S.Source.outside _ _ _ _ c.request.ensures.source
    (told_alike _ _ _ _ _ _ c.request.ensures.source.call.cause (λ is. is) (λ is. is) (λ failed. (failed, (change_is (g.C.Operation.effect c.args.operation.now) c.in-Ok-pending.found (next_as (g.C.Operation.effect c.args.operation.now) c.effect.result c.in-Ok-pending.found _ c.phase_behind.result c.effect.ensures c.phase_behind.ensures c.in-Change.is)).0)))

pub returns-in-Change-clause-spawner : goal.returns-in-Change-clause-spawner
returns-in-Change-clause-spawner g c = told_alike _ _ _ _ _ _ c.request.ensures.spawner (λ is. is) (λ is. is) (λ failed. (failed, (change_is (g.C.Operation.effect c.args.operation.now) c.in-Ok-pending.found (next_as (g.C.Operation.effect c.args.operation.now) c.effect.result c.in-Ok-pending.found _ c.phase_behind.result c.effect.ensures c.phase_behind.ensures c.in-Change.is)).0))

pub returns-in-Create-clause-source : goal.returns-in-Create-clause-source
returns-in-Create-clause-source g c = reads_with g.S.Source.outside _ _ _ _ c.create.ensures.source
    (told_alike _ _ _ _ _ _ c.create.ensures.source.call.cause (λ is. is) (λ is. is) (λ failed. (failed, (create_is (g.C.Operation.effect c.args.operation.now) c.in-Ok-pending.found (next_as (g.C.Operation.effect c.args.operation.now) c.effect.result c.in-Ok-pending.found _ c.phase_behind.result c.effect.ensures c.phase_behind.ensures c.in-Create.is)).1)))

pub returns-in-Create-clause-spawner : goal.returns-in-Create-clause-spawner
returns-in-Create-clause-spawner g c = told_alike _ _ _ _ _ _ c.create.ensures.spawner (λ is. is) (λ is. is) (λ failed. (failed, (create_is (g.C.Operation.effect c.args.operation.now) c.in-Ok-pending.found (next_as (g.C.Operation.effect c.args.operation.now) c.effect.result c.in-Ok-pending.found _ c.phase_behind.result c.effect.ensures c.phase_behind.ensures c.in-Create.is)).1))
