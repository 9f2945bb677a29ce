use Rattle.std.proofs.Common.{◌≡◌, true, List, ℕ, false, refl, sym, ◌∙◌, ap, subst, ◌||◌, Some, IsTrue}
use Rattle.ips_outside.proofs.Trees.{on_ok_to}
use Rattle.ips_outside.proofs.Placed.{look_placed}
use Rattle.ips_outside.specs.Change.{with_entry_at}
use Rattle.ips_rehearse.proofs.Passing.{pass_call, pass_then, worked_within}
use Rattle.std.proofs.lemmas.Bool.{or_left}
use Rattle.ips_text.specs.Ancestry.{covers, is_below}
use Rattle.ips_text.specs.Path.{IsPath}
use Rattle.ips_outside.specs.Image.{is_dir, is_file, Dir}
use Rattle.ips_outside.specs.State.{State, nowhere}
use Rattle.ips_folder.specs.Calls.{CanMake}
use Rattle.ips_folder.proofs.Runs.{keeps_then, keeps_wider}
use Rattle.ips_rehearse.specs.Tried.{try_name, dir_name, IsEmptyDir, IsGone, IsDirOf, Passed, Stood, WasWorked}
use Rattle.ips_rehearse.proofs.Paths.{dir_path, dir_parent, dir_is}
use Rattle.ips_rehearse.proofs.Trials.{wrote_in, moded_in, dir_names, made_dir, is_gone, not_below_self, off_below, on_ok, off_child, can_make, empty_again}
use Rattle.ips_rehearse.proofs.trying.try_dir.Goals as goal

at_dir : (p : List ℕ) → p ≡ dir_name → (q : List ℕ) → covers dir_name q ≡ false → covers p q ≡ false
at_dir p at q off = ap (λ (x : List ℕ). covers x q) at ∙ off

pub make_dir-requires-clause-can : goal.make_dir-requires-clause-can
make_dir-requires-clause-can g c = λ told. subst (CanMake (g.F.Source.outside.state c.args.folder.now).held) (sym (c.go.ensures.there ∙ c.tried_dir.ensures)) (can_make try_name dir_name (g.F.Source.outside.state c.args.folder.now).held dir_parent (c.requires.empty told))

pub work-answer-requires-clause-empty : goal.work-answer-requires-clause-empty
work-answer-requires-clause-empty g c = λ told_now.
    let o = g.F.Source.outside in
    let told = sym c.make_dir.ensures.call.same_kind ∙ told_now in
    subst (λ (p : List ℕ). IsEmptyDir p (o.state c.make_dir.new.self).held) (c.go.ensures.there ∙ c.tried_dir.ensures)
    (made_dir c.go.new.path.bytes c.args.mode (o.state c.args.folder.now).held (o.state c.make_dir.new.self).held (ap (λ (s : State). s.held) (c.in-Ok.ensures.done told)))

pub set_mode-requires-clause-can : goal.set_mode-requires-clause-can
set_mode-requires-clause-can g c = λ told_now.
    let o = g.F.Source.outside in
    let told_1 = sym c.work-answer.ensures.calls.same_kind ∙ told_now in
    let told = sym c.make_dir.ensures.call.same_kind ∙ told_1 in
    let made = made_dir c.go.new.path.bytes c.args.mode (o.state c.args.folder.now).held (o.state c.make_dir.new.self).held (ap (λ (s : State). s.held) (c.in-Ok.ensures.done told)) in
    let p = c.go.new.path.bytes in
    or_left (is_dir ((o.state c.work-answer.new.folder).held.look p)) (is_file ((o.state c.work-answer.new.folder).held.look p))
    (ap is_dir ((c.work-answer.ensures.any_moment told_1).now.agrees.look p (ap (is_below dir_name) (c.go.ensures.there ∙ c.tried_dir.ensures) ∙ not_below_self dir_name) refl) ∙ made.stands)

pub returns-in_default-clause-any_moment : goal.returns-in_default-clause-any_moment
returns-in_default-clause-any_moment g c = λ told.
    keeps_wider g.F.Source.outside (covers dir_name) (covers dir_name) (is_below try_name) (is_below try_name) c.args.folder.now c.make_dir.new.self (off_child try_name dir_name dir_parent) (off_child try_name dir_name dir_parent)
    (wrote_in g.F.Source.outside g.met.F.Source.sane (covers dir_name) (covers dir_name) c.go.new.path.bytes (at_dir c.go.new.path.bytes (c.go.ensures.there ∙ c.tried_dir.ensures)) c.args.folder.now c.make_dir.new.self _ c.make_dir.result told c.make_dir.ensures)

pub returns-in_default-set_mode-clause-any_moment : goal.returns-in_default-set_mode-clause-any_moment
returns-in_default-set_mode-clause-any_moment g c = λ told.
    let o = g.F.Source.outside in
    let sane = g.met.F.Source.sane in
    let p = c.go.new.path.bytes in
    let told_1 = c.make_dir.ensures.call.same_kind ∙ told in
    let told_2 = c.work-answer.ensures.calls.same_kind ∙ told_1 in
    let made = made_dir p c.args.mode (o.state c.args.folder.now).held (o.state c.make_dir.new.self).held (ap (λ (s : State). s.held) (c.in-Ok.ensures.done told)) in
    let stands : is_dir ((o.state c.work-answer.new.folder).held.look p) ≡ true = ap is_dir ((c.work-answer.ensures.any_moment told_1).now.agrees.look p (ap (is_below dir_name) (c.go.ensures.there ∙ c.tried_dir.ensures) ∙ not_below_self dir_name) refl) ∙ made.stands in
    keeps_wider g.F.Source.outside (covers dir_name) (covers dir_name) (is_below try_name) (is_below try_name) c.args.folder.now c.set_mode.new.self (off_child try_name dir_name dir_parent) (off_child try_name dir_name dir_parent)
    (keeps_then o (covers dir_name) (covers dir_name) c.args.folder.now c.work-answer.new.folder c.set_mode.new.self
    (keeps_then o (covers dir_name) (covers dir_name) c.args.folder.now c.make_dir.new.self c.work-answer.new.folder
    (wrote_in o sane (covers dir_name) (covers dir_name) p (at_dir p (c.go.ensures.there ∙ c.tried_dir.ensures)) c.args.folder.now c.make_dir.new.self _ c.make_dir.result told c.make_dir.ensures)
    (keeps_wider o (is_below dir_name) nowhere (covers dir_name) (covers dir_name) c.make_dir.new.self c.work-answer.new.folder (off_below dir_name) (λ q off. refl) (c.work-answer.ensures.any_moment told_1)))
    (moded_in o sane (covers dir_name) (covers dir_name) p 448 c.work-answer.new.folder c.set_mode.new.self
    (λ q off. dir_names (o.state c.work-answer.new.folder).held (sane.formed c.work-answer.new.folder told_2) p stands q (at_dir p (c.go.ensures.there ∙ c.tried_dir.ensures) q off)) c.set_mode.result told_2 c.set_mode.ensures))

pub returns-in_default-remove-clause-any_moment : goal.returns-in_default-remove-clause-any_moment
returns-in_default-remove-clause-any_moment g c = λ told.
    let o = g.F.Source.outside in
    let sane = g.met.F.Source.sane in
    let p = c.go.new.path.bytes in
    let told_1 = c.make_dir.ensures.call.same_kind ∙ told in
    let told_2 = c.work-answer.ensures.calls.same_kind ∙ told_1 in
    let made = made_dir p c.args.mode (o.state c.args.folder.now).held (o.state c.make_dir.new.self).held (ap (λ (s : State). s.held) (c.in-Ok.ensures.done told)) in
    let stands : is_dir ((o.state c.work-answer.new.folder).held.look p) ≡ true = ap is_dir ((c.work-answer.ensures.any_moment told_1).now.agrees.look p (ap (is_below dir_name) (c.go.ensures.there ∙ c.tried_dir.ensures) ∙ not_below_self dir_name) refl) ∙ made.stands in
    keeps_wider g.F.Source.outside (covers dir_name) (covers dir_name) (is_below try_name) (is_below try_name) c.args.folder.now c.remove.new.self (off_child try_name dir_name dir_parent) (off_child try_name dir_name dir_parent)
    (keeps_then o (covers dir_name) (covers dir_name) c.args.folder.now c.set_mode.new.self c.remove.new.self
    (keeps_then o (covers dir_name) (covers dir_name) c.args.folder.now c.work-answer.new.folder c.set_mode.new.self
    (keeps_then o (covers dir_name) (covers dir_name) c.args.folder.now c.make_dir.new.self c.work-answer.new.folder
    (wrote_in o sane (covers dir_name) (covers dir_name) p (at_dir p (c.go.ensures.there ∙ c.tried_dir.ensures)) c.args.folder.now c.make_dir.new.self _ c.make_dir.result told c.make_dir.ensures)
    (keeps_wider o (is_below dir_name) nowhere (covers dir_name) (covers dir_name) c.make_dir.new.self c.work-answer.new.folder (off_below dir_name) (λ q off. refl) (c.work-answer.ensures.any_moment told_1)))
    (moded_in o sane (covers dir_name) (covers dir_name) p 448 c.work-answer.new.folder c.set_mode.new.self
    (λ q off. dir_names (o.state c.work-answer.new.folder).held (sane.formed c.work-answer.new.folder told_2) p stands q (at_dir p (c.go.ensures.there ∙ c.tried_dir.ensures) q off)) c.set_mode.result told_2 c.set_mode.ensures))
    (wrote_in o sane (covers dir_name) (covers dir_name) p (at_dir p (c.go.ensures.there ∙ c.tried_dir.ensures)) c.set_mode.new.self c.remove.new.self _ c.remove.result (c.set_mode.ensures.call.same_kind ∙ told_2) c.remove.ensures))

pub returns-clause-any_moment : goal.returns-clause-any_moment
returns-clause-any_moment g c = λ told.
    let o = g.F.Source.outside in
    let sane = g.met.F.Source.sane in
    let p = c.go.new.path.bytes in
    let told_1 = c.make_dir.ensures.call.same_kind ∙ told in
    let told_2 = c.work-answer.ensures.calls.same_kind ∙ told_1 in
    let made = made_dir p c.args.mode (o.state c.args.folder.now).held (o.state c.make_dir.new.self).held (ap (λ (s : State). s.held) (c.in-Ok.ensures.done told)) in
    let stands : is_dir ((o.state c.work-answer.new.folder).held.look p) ≡ true = ap is_dir ((c.work-answer.ensures.any_moment told_1).now.agrees.look p (ap (is_below dir_name) (c.go.ensures.there ∙ c.tried_dir.ensures) ∙ not_below_self dir_name) refl) ∙ made.stands in
    keeps_wider g.F.Source.outside (covers dir_name) (covers dir_name) (is_below try_name) (is_below try_name) c.args.folder.now c.remove.new.self (off_child try_name dir_name dir_parent) (off_child try_name dir_name dir_parent)
    (keeps_then o (covers dir_name) (covers dir_name) c.args.folder.now c.set_mode.new.self c.remove.new.self
    (keeps_then o (covers dir_name) (covers dir_name) c.args.folder.now c.work-answer.new.folder c.set_mode.new.self
    (keeps_then o (covers dir_name) (covers dir_name) c.args.folder.now c.make_dir.new.self c.work-answer.new.folder
    (wrote_in o sane (covers dir_name) (covers dir_name) p (at_dir p (c.go.ensures.there ∙ c.tried_dir.ensures)) c.args.folder.now c.make_dir.new.self _ c.make_dir.result told c.make_dir.ensures)
    (keeps_wider o (is_below dir_name) nowhere (covers dir_name) (covers dir_name) c.make_dir.new.self c.work-answer.new.folder (off_below dir_name) (λ q off. refl) (c.work-answer.ensures.any_moment told_1)))
    (moded_in o sane (covers dir_name) (covers dir_name) p 448 c.work-answer.new.folder c.set_mode.new.self
    (λ q off. dir_names (o.state c.work-answer.new.folder).held (sane.formed c.work-answer.new.folder told_2) p stands q (at_dir p (c.go.ensures.there ∙ c.tried_dir.ensures) q off)) c.set_mode.result told_2 c.set_mode.ensures))
    (wrote_in o sane (covers dir_name) (covers dir_name) p (at_dir p (c.go.ensures.there ∙ c.tried_dir.ensures)) c.set_mode.new.self c.remove.new.self _ c.remove.result (c.set_mode.ensures.call.same_kind ∙ told_2) c.remove.ensures))

pub returns-clause-empty : goal.returns-clause-empty
returns-clause-empty g c = λ told.
    let o = g.F.Source.outside in
    let sane = g.met.F.Source.sane in
    let p = c.go.new.path.bytes in
    let told_1 = c.make_dir.ensures.call.same_kind ∙ told in
    let told_2 = c.work-answer.ensures.calls.same_kind ∙ told_1 in
    let made = made_dir p c.args.mode (o.state c.args.folder.now).held (o.state c.make_dir.new.self).held (ap (λ (s : State). s.held) (c.in-Ok.ensures.done told)) in
    let stands : is_dir ((o.state c.work-answer.new.folder).held.look p) ≡ true = ap is_dir ((c.work-answer.ensures.any_moment told_1).now.agrees.look p (ap (is_below dir_name) (c.go.ensures.there ∙ c.tried_dir.ensures) ∙ not_below_self dir_name) refl) ∙ made.stands in
    let told_3 = c.set_mode.ensures.call.same_kind ∙ told_2 in
    on_ok _ (empty_again try_name dir_name (o.state c.args.folder.now).held (o.state c.remove.new.self).held dir_parent (c.requires.empty told)
    (keeps_then o (covers dir_name) (covers dir_name) c.args.folder.now c.set_mode.new.self c.remove.new.self
    (keeps_then o (covers dir_name) (covers dir_name) c.args.folder.now c.work-answer.new.folder c.set_mode.new.self
    (keeps_then o (covers dir_name) (covers dir_name) c.args.folder.now c.make_dir.new.self c.work-answer.new.folder
    (wrote_in o sane (covers dir_name) (covers dir_name) p (at_dir p (c.go.ensures.there ∙ c.tried_dir.ensures)) c.args.folder.now c.make_dir.new.self _ c.make_dir.result told c.make_dir.ensures)
    (keeps_wider o (is_below dir_name) nowhere (covers dir_name) (covers dir_name) c.make_dir.new.self c.work-answer.new.folder (off_below dir_name) (λ q off. refl) (c.work-answer.ensures.any_moment told_1)))
    (moded_in o sane (covers dir_name) (covers dir_name) p 448 c.work-answer.new.folder c.set_mode.new.self
    (λ q off. dir_names (o.state c.work-answer.new.folder).held (sane.formed c.work-answer.new.folder told_2) p stands q (at_dir p (c.go.ensures.there ∙ c.tried_dir.ensures) q off)) c.set_mode.result told_2 c.set_mode.ensures))
    (wrote_in o sane (covers dir_name) (covers dir_name) p (at_dir p (c.go.ensures.there ∙ c.tried_dir.ensures)) c.set_mode.new.self c.remove.new.self _ c.remove.result (c.set_mode.ensures.call.same_kind ∙ told_2) c.remove.ensures)).now.agrees
    (subst (λ (p : List ℕ). IsGone p (o.state c.remove.new.self).held) (c.go.ensures.there ∙ c.tried_dir.ensures)
    (is_gone c.go.new.path.bytes (o.state c.set_mode.new.self).held (o.state c.remove.new.self).held (ap (λ (s : State). s.held) (c.in-Ok-remove.ensures.done told_3))))) _

pub go-requires-clause-path : goal.go-requires-clause-path
go-requires-clause-path g c = subst IsPath (dir_is ∙ sym c.tried_dir.ensures) dir_path

pub work-answer-requires-clause-place : goal.work-answer-requires-clause-place
work-answer-requires-clause-place g c = c.go.ensures.there ∙ c.tried_dir.ensures

pub returns-clause-seen : goal.returns-clause-seen
returns-clause-seen g c = λ told.
    let o = g.F.Source.outside in
    let told_1 = c.make_dir.ensures.call.same_kind ∙ told in
    let made : IsDirOf c.args.mode (o.state c.make_dir.new.self).held =
    ap (λ (s : State). s.held.look dir_name) (c.in-Ok.ensures.done told) ∙ ap (λ (p : List ℕ). (with_entry_at p (Some (Dir c.args.mode false)) (o.state c.args.folder.now).held).look dir_name) (c.go.ensures.there ∙ c.tried_dir.ensures)
    ∙ look_placed dir_name (Some (Dir c.args.mode false)) (o.state c.args.folder.now).held in
    let before = pass_call o c.args.folder.now c.make_dir.new.self _ c.make_dir.ensures.call in
    let behind = pass_then o c.work-answer.new.folder c.set_mode.new.self c.remove.new.self (pass_call o c.work-answer.new.folder c.set_mode.new.self _ c.set_mode.ensures.call) (pass_call o c.set_mode.new.self c.remove.new.self _ c.remove.ensures.call) in
    on_ok_to c.work-answer.result (Passed o c.args.folder.now c.remove.new.self × (IsTrue (c.args.is_asked || c.args.is_worked) → Stood o c.args.folder.now c.remove.new.self (IsDirOf c.args.mode)) × (IsTrue c.args.is_worked → WasWorked o c.args.mode c.args.folder.now c.remove.new.self))
    (λ seen.
    let on = pass_then o c.make_dir.new.self c.work-answer.new.folder c.remove.new.self seen.0 behind in (
      pass_then o c.args.folder.now c.make_dir.new.self c.remove.new.self before on,
      λ asked. record { at = c.make_dir.new.self; since = before; until = on; held = made },
      λ works. worked_within o c.args.folder.now c.make_dir.new.self c.work-answer.new.folder c.remove.new.self c.args.mode before behind (seen.1 works),
    ))
    (c.work-answer.ensures.seen told_1 c.args.mode made)
