use Rattle.std.proofs.Common.{◌≡◌, inr, false, List, ℕ, None, ◌∙◌, ap}
use Rattle.ips_text.specs.Ancestry.{covers}
use Rattle.ips_outside.specs.Change.{with_entry_at}
use Rattle.ips_outside.specs.State.{State, nowhere}
use Rattle.ips_steps.specs.Steps.{stage_name}
use Rattle.ips_steps.specs.Private.{journal_name, mark_front, begins}
use Rattle.ips_folder.proofs.Runs.{keeps_then, keeps_wider}
use Rattle.ips_rehearse.proofs.Passing.{pass_call, pass_then}
use Rattle.ips_commit.specs.Pending.{is_swept}
use Rattle.ips_commit.proofs.OwnNames.{stage_swept, journal_swept, marks_swept}
use Rattle.ips_commit.proofs.Swept.{swept_all}
use Rattle.ips_contents.proofs.Wrote.{wrote, wrote_then}
use Rattle.ips_commit.proofs.Staged.{stage_made, stage_agrees}
use Rattle.ips_commit.proofs.Unready.{no_journal, failed_at, gone_by, staged_over, marks_over}
use Rattle.ips_commit.proofs.GateOpens.{on_err}
use Rattle.ips_commit.proofs.sweeping.sweep.Goals as goal

journal_off : (p : List ℕ) → p ≡ journal_name → (q : List ℕ) → is_swept q ≡ false → covers p q ≡ false
journal_off p is q off = ap (λ (x : List ℕ). covers x q) is ∙ journal_swept q off

stage_off : (p : List ℕ) → p ≡ stage_name → (q : List ℕ) → is_swept q ≡ false → covers p q ≡ false
stage_off p is q off = ap (λ (x : List ℕ). covers x q) is ∙ stage_swept q off

pub returns-in_err-remove-clause-any_moment : goal.returns-in_err-remove-clause-any_moment
returns-in_err-remove-clause-any_moment g c = λ told.
    wrote g.F.Source.outside g.met.F.Source.sane is_swept _ (journal_off _ c.args.names.now.journal_is) c.args.folder.now c.remove.new.self _ c.remove.result told c.remove.ensures

pub returns-in_err-remove-2-clause-any_moment : goal.returns-in_err-remove-2-clause-any_moment
returns-in_err-remove-2-clause-any_moment g c = λ told.
    let first = wrote g.F.Source.outside g.met.F.Source.sane is_swept _ (journal_off _ c.args.names.now.journal_is) c.args.folder.now c.remove.new.self _ c.remove.result told c.remove.ensures in
    wrote_then g.F.Source.outside g.met.F.Source.sane is_swept _ (stage_off _ c.args.names.now.stage_is) c.args.folder.now c.remove.new.self c.remove-2.new.self _ c.remove-2.result first (c.remove.ensures.call.same_kind ∙ told) c.remove-2.ensures

pub returns-in_err-remove_all-clause-any_moment : goal.returns-in_err-remove_all-clause-any_moment
returns-in_err-remove_all-clause-any_moment g c = λ told.
    let told_1 = c.remove.ensures.call.same_kind ∙ told in
    let first = wrote g.F.Source.outside g.met.F.Source.sane is_swept _ (journal_off _ c.args.names.now.journal_is) c.args.folder.now c.remove.new.self _ c.remove.result told c.remove.ensures in
    let second = wrote_then g.F.Source.outside g.met.F.Source.sane is_swept _ (stage_off _ c.args.names.now.stage_is) c.args.folder.now c.remove.new.self c.remove-2.new.self _ c.remove-2.result first told_1 c.remove-2.ensures in
    keeps_then g.F.Source.outside is_swept nowhere c.args.folder.now c.remove-2.new.self c.remove_all.new.folder second
    (keeps_wider g.F.Source.outside (begins mark_front) nowhere is_swept nowhere c.remove-2.new.self c.remove_all.new.folder marks_swept (λ q n. n) (c.remove_all.ensures.any_moment (c.remove-2.ensures.call.same_kind ∙ told_1)))

pub returns-clause-any_moment : goal.returns-clause-any_moment
returns-clause-any_moment g c = λ told.
    let told_1 = c.remove.ensures.call.same_kind ∙ told in
    let first = wrote g.F.Source.outside g.met.F.Source.sane is_swept _ (journal_off _ c.args.names.now.journal_is) c.args.folder.now c.remove.new.self _ c.remove.result told c.remove.ensures in
    let second = wrote_then g.F.Source.outside g.met.F.Source.sane is_swept _ (stage_off _ c.args.names.now.stage_is) c.args.folder.now c.remove.new.self c.remove-2.new.self _ c.remove-2.result first told_1 c.remove-2.ensures in
    keeps_then g.F.Source.outside is_swept nowhere c.args.folder.now c.remove-2.new.self c.remove_all.new.folder second
    (keeps_wider g.F.Source.outside (begins mark_front) nowhere is_swept nowhere c.remove-2.new.self c.remove_all.new.folder marks_swept (λ q n. n) (c.remove_all.ensures.any_moment (c.remove-2.ensures.call.same_kind ∙ told_1)))

pub returns-clause-swept : goal.returns-clause-swept
returns-clause-swept g c = λ told.
    let o = g.F.Source.outside in
    let told_1 = c.remove.ensures.call.same_kind ∙ told in
    let told_2 = c.remove-2.ensures.call.same_kind ∙ told_1 in
    swept_all _ (o.state c.args.folder.now).held (o.state c.remove.new.self).held (o.state c.remove-2.new.self).held (o.state c.remove_all.new.folder).held
    (ap (λ (s : State). s.held) (c.in_ok-remove.ensures.done told) ∙ ap (λ (p : List ℕ). with_entry_at p None (o.state c.args.folder.now).held) c.args.names.now.journal_is)
    (ap (λ (s : State). s.held) (c.in_ok-remove-2.ensures.done told_1) ∙ ap (λ (p : List ℕ). with_entry_at p None (o.state c.remove.new.self).held) c.args.names.now.stage_is)
    (c.in_ok-remove_all.ensures.gone told_2) (c.in_ok-remove_all.ensures.nothing_new told_2)

pub returns-in_err-remove-clause-unready : goal.returns-in_err-remove-clause-unready
returns-in_err-remove-clause-unready g c = λ told.
    let o = g.F.Source.outside in
    on_err _ _ (failed_at c.args.names.now.journal.bytes c.args.names.now.journal_is (o.state c.args.folder.now) (o.state c.remove.new.self) (c.remove.ensures.only told))

pub returns-in_err-remove-2-clause-unready : goal.returns-in_err-remove-2-clause-unready
returns-in_err-remove-2-clause-unready g c = λ told.
    let o = g.F.Source.outside in
    let gone = gone_by c.args.names.now.journal.bytes c.args.names.now.journal_is (o.state c.args.folder.now) (o.state c.remove.new.self) (c.in_ok-remove.ensures.done told) in
    let run = stage_made o g.met.F.Source.sane c.args.names.now.stage.bytes c.args.names.now.stage_is c.remove.new.self c.remove-2.new.self _ c.remove-2.result (c.remove.ensures.call.same_kind ∙ told) c.remove-2.ensures in
    on_err _ _ (inr (no_journal (o.state c.remove-2.new.self) (staged_over (o.state c.remove.new.self).held (o.state c.remove-2.new.self).held (stage_agrees o g.met.F.Source.sane c.remove.new.self c.remove-2.new.self run) gone)))

pub returns-in_err-remove_all-clause-unready : goal.returns-in_err-remove_all-clause-unready
returns-in_err-remove_all-clause-unready g c = λ told.
    let o = g.F.Source.outside in
    let told_1 = c.remove.ensures.call.same_kind ∙ told in
    let told_2 = c.remove-2.ensures.call.same_kind ∙ told_1 in
    let gone = gone_by c.args.names.now.journal.bytes c.args.names.now.journal_is (o.state c.args.folder.now) (o.state c.remove.new.self) (c.in_ok-remove.ensures.done told) in
    let run = stage_made o g.met.F.Source.sane c.args.names.now.stage.bytes c.args.names.now.stage_is c.remove.new.self c.remove-2.new.self _ c.remove-2.result told_1 c.remove-2.ensures in
    on_err _ _ (inr (no_journal (o.state c.remove_all.new.folder) (marks_over (o.state c.remove-2.new.self).held (o.state c.remove_all.new.folder).held (c.remove_all.ensures.any_moment told_2).now.agrees
    (staged_over (o.state c.remove.new.self).held (o.state c.remove-2.new.self).held (stage_agrees o g.met.F.Source.sane c.remove.new.self c.remove-2.new.self run) gone))))

pub returns-clause-passed : goal.returns-clause-passed
returns-clause-passed g c =
    let o = g.F.Source.outside in
    pass_then o c.args.folder.now c.remove.new.self c.remove_all.new.folder (pass_call o c.args.folder.now c.remove.new.self _ c.remove.ensures.call)
    (pass_then o c.remove.new.self c.remove-2.new.self c.remove_all.new.folder (pass_call o c.remove.new.self c.remove-2.new.self _ c.remove-2.ensures.call) c.in_ok-remove_all.ensures.passed)
