use Rattle.std.proofs.Common.{◌≡◌, false, List, ℕ, [], Some, sym, ◌∙◌, ap, subst}
use Rattle.ips_text.specs.Ancestry.{covers}
use Rattle.ips_outside.specs.Image.{Image, File, file_bytes}
use Rattle.ips_outside.specs.Change.{with_entry_at}
use Rattle.ips_outside.specs.State.{State, nowhere}
use Rattle.ips_outside.proofs.Placed.{look_placed}
use Rattle.ips_folder.specs.Calls.{CanMake, IsSole}
use Rattle.ips_folder.proofs.Runs.{keeps_then, one_sync}
use Rattle.ips_steps.specs.Private.{journal_name}
use Rattle.ips_folder.proofs.Filled.{sole_placed}
use Rattle.ips_contents.proofs.Wrote.{wrote}
use Rattle.ips_commit.proofs.Unready.{journal_touched, touched_by, not_made}
use Rattle.ips_commit.proofs.GateOpens.{on_err}
use Rattle.ips_commit.proofs.staging.write_safely.Goals as goal

at_journal : (p : List ℕ) → p ≡ journal_name → (q : List ℕ) → covers journal_name q ≡ false → covers p q ≡ false
at_journal p at q off = ap (λ (x : List ℕ). covers x q) at ∙ off

pub make_file-requires : goal.make_file-requires
make_file-requires g c = λ told. subst (CanMake (g.F.Source.outside.state c.args.folder.now).held) (sym c.args.names.now.journal_is) (c.requires.can told)

pub write_steps-requires : goal.write_steps-requires
write_steps-requires g c = λ told_now.
    let o = g.F.Source.outside in
    let told = sym c.make_file.ensures.call.same_kind ∙ told_now in
    let made : (o.state c.make_file.new.self).held ≡ with_entry_at journal_name (Some (File 384 [])) (o.state c.args.folder.now).held =
    ap (λ (s : State). s.held) (c.in_ok-make_file.ensures.done told) ∙ ap (λ (p : List ℕ). with_entry_at p (Some (File 384 [])) (o.state c.args.folder.now).held) c.args.names.now.journal_is in
    c.requires.start (o.state c.make_file.new.self).held
    (subst (λ (t : Image). IsSole t journal_name) (sym made) (sole_placed journal_name 384 [] (o.state c.args.folder.now).held))
    (ap (λ (t : Image). file_bytes (t.look journal_name)) made ∙ ap file_bytes (look_placed journal_name (Some (File 384 [])) (o.state c.args.folder.now).held))

pub finish-requires : goal.finish-requires
finish-requires g c = λ told_now. (c.in_ok-write_steps.ensures.written (sym c.write_steps.ensures.same_kind ∙ told_now)).sole

pub returns-in_err-make_file-clause-any_moment : goal.returns-in_err-make_file-clause-any_moment
returns-in_err-make_file-clause-any_moment g c = λ told.
    wrote g.F.Source.outside g.met.F.Source.sane (covers journal_name) c.args.names.now.journal.bytes (at_journal c.args.names.now.journal.bytes c.args.names.now.journal_is) c.args.folder.now c.make_file.new.self _ c.make_file.result told c.make_file.ensures

pub returns-in_err-write_steps-clause-any_moment : goal.returns-in_err-write_steps-clause-any_moment
returns-in_err-write_steps-clause-any_moment g c = λ told.
    let o = g.F.Source.outside in
    keeps_then o (covers journal_name) nowhere c.args.folder.now c.make_file.new.self c.write_steps.new.folder
    (wrote o g.met.F.Source.sane (covers journal_name) c.args.names.now.journal.bytes (at_journal c.args.names.now.journal.bytes c.args.names.now.journal_is) c.args.folder.now c.make_file.new.self _ c.make_file.result told c.make_file.ensures)
    (c.write_steps.ensures.any_moment (c.make_file.ensures.call.same_kind ∙ told))

pub returns-in_err-finish-clause-any_moment : goal.returns-in_err-finish-clause-any_moment
returns-in_err-finish-clause-any_moment g c = λ told.
    let o = g.F.Source.outside in
    let told_1 = c.make_file.ensures.call.same_kind ∙ told in
    keeps_then o (covers journal_name) nowhere c.args.folder.now c.write_steps.new.folder c.finish.new.folder
    (keeps_then o (covers journal_name) nowhere c.args.folder.now c.make_file.new.self c.write_steps.new.folder
    (wrote o g.met.F.Source.sane (covers journal_name) c.args.names.now.journal.bytes (at_journal c.args.names.now.journal.bytes c.args.names.now.journal_is) c.args.folder.now c.make_file.new.self _ c.make_file.result told c.make_file.ensures)
    (c.write_steps.ensures.any_moment told_1)) (c.finish.ensures.any_moment (c.write_steps.ensures.same_kind ∙ told_1))

pub returns-in_err-sync-clause-any_moment : goal.returns-in_err-sync-clause-any_moment
returns-in_err-sync-clause-any_moment g c = λ told.
    let o = g.F.Source.outside in
    let told_1 = c.make_file.ensures.call.same_kind ∙ told in
    let told_2 = c.write_steps.ensures.same_kind ∙ told_1 in
    keeps_then o (covers journal_name) nowhere c.args.folder.now c.finish.new.folder c.sync.new.self
    (keeps_then o (covers journal_name) nowhere c.args.folder.now c.write_steps.new.folder c.finish.new.folder
    (keeps_then o (covers journal_name) nowhere c.args.folder.now c.make_file.new.self c.write_steps.new.folder
    (wrote o g.met.F.Source.sane (covers journal_name) c.args.names.now.journal.bytes (at_journal c.args.names.now.journal.bytes c.args.names.now.journal_is) c.args.folder.now c.make_file.new.self _ c.make_file.result told c.make_file.ensures)
    (c.write_steps.ensures.any_moment told_1)) (c.finish.ensures.any_moment told_2))
    (one_sync o g.met.F.Source.sane (covers journal_name) nowhere c.finish.new.folder c.sync.new.self c.sync.result (c.finish.ensures.same_kind ∙ told_2) c.sync.ensures)

pub returns-clause-any_moment : goal.returns-clause-any_moment
returns-clause-any_moment g c = λ told.
    let o = g.F.Source.outside in
    let told_1 = c.make_file.ensures.call.same_kind ∙ told in
    let told_2 = c.write_steps.ensures.same_kind ∙ told_1 in
    keeps_then o (covers journal_name) nowhere c.args.folder.now c.finish.new.folder c.sync.new.self
    (keeps_then o (covers journal_name) nowhere c.args.folder.now c.write_steps.new.folder c.finish.new.folder
    (keeps_then o (covers journal_name) nowhere c.args.folder.now c.make_file.new.self c.write_steps.new.folder
    (wrote o g.met.F.Source.sane (covers journal_name) c.args.names.now.journal.bytes (at_journal c.args.names.now.journal.bytes c.args.names.now.journal_is) c.args.folder.now c.make_file.new.self _ c.make_file.result told c.make_file.ensures)
    (c.write_steps.ensures.any_moment told_1)) (c.finish.ensures.any_moment told_2))
    (one_sync o g.met.F.Source.sane (covers journal_name) nowhere c.finish.new.folder c.sync.new.self c.sync.result (c.finish.ensures.same_kind ∙ told_2) c.sync.ensures)

pub returns-clause-written : goal.returns-clause-written
returns-clause-written g c = λ told.
    let told_1 = c.make_file.ensures.call.same_kind ∙ told in
    let told_2 = c.write_steps.ensures.same_kind ∙ told_1 in
    ap (λ (s : State). file_bytes (s.held.look journal_name)) (c.in_ok-sync.ensures.done (c.finish.ensures.same_kind ∙ told_2))
    ∙ c.in_ok-finish.ensures.written told_2 _ (c.in_ok-write_steps.ensures.written told_1) c.requires.lists.count

pub returns-in_err-make_file-clause-unready : goal.returns-in_err-make_file-clause-unready
returns-in_err-make_file-clause-unready g c = λ told.
    let o = g.F.Source.outside in
    on_err _ _ (not_made c.args.names.now.journal.bytes c.args.names.now.journal_is (o.state c.args.folder.now) (o.state c.make_file.new.self) (c.requires.can told).absent (c.make_file.ensures.only told))

pub returns-in_err-write_steps-clause-unready : goal.returns-in_err-write_steps-clause-unready
returns-in_err-write_steps-clause-unready g c = λ told.
    let o = g.F.Source.outside in
    let made = touched_by c.args.names.now.journal.bytes c.args.names.now.journal_is _ (o.state c.args.folder.now) (o.state c.make_file.new.self) (c.in_ok-make_file.ensures.done told) in
    on_err _ _ (journal_touched (o.state c.write_steps.new.folder) (c.write_steps.ensures.touched (c.make_file.ensures.call.same_kind ∙ told) journal_name made))

pub returns-in_err-finish-clause-unready : goal.returns-in_err-finish-clause-unready
returns-in_err-finish-clause-unready g c = λ told.
    let o = g.F.Source.outside in
    let told_1 = c.make_file.ensures.call.same_kind ∙ told in
    let made = touched_by c.args.names.now.journal.bytes c.args.names.now.journal_is _ (o.state c.args.folder.now) (o.state c.make_file.new.self) (c.in_ok-make_file.ensures.done told) in
    on_err _ _ (journal_touched (o.state c.finish.new.folder)
    (c.finish.ensures.touched (c.write_steps.ensures.same_kind ∙ told_1) journal_name (c.write_steps.ensures.touched told_1 journal_name made)))

pub returns-in_err-sync-clause-unready : goal.returns-in_err-sync-clause-unready
returns-in_err-sync-clause-unready g c = λ told.
    let o = g.F.Source.outside in
    let told_1 = c.make_file.ensures.call.same_kind ∙ told in
    let made = touched_by c.args.names.now.journal.bytes c.args.names.now.journal_is _ (o.state c.args.folder.now) (o.state c.make_file.new.self) (c.in_ok-make_file.ensures.done told) in
    on_err _ _ (journal_touched (o.state c.sync.new.self) (ap (λ (s : State). s.whole journal_name) c.in_err-sync.ensures.kept
    ∙ c.finish.ensures.touched (c.write_steps.ensures.same_kind ∙ told_1) journal_name (c.write_steps.ensures.touched told_1 journal_name made)))
