use Rattle.std.proofs.Common.{codes, false, refl, List, ℕ, Some, sym, ◌∙◌, ap, subst, ◌≡◌, [], IsTrue}
use Rattle.ips_steps.proofs.Lists.{clash}
use Rattle.ips_outside.proofs.Trees.{on_ok_to}
use Rattle.ips_rehearse.proofs.Busy.{inner_dir_is, inner_file_is, is_busy, is_idle, with_both, without_both}
use Rattle.ips_rehearse.proofs.Passing.{pass_none, pass_call, pass_then}
use Rattle.ips_text.specs.Ancestry.{is_below, parent}
use Rattle.ips_outside.specs.Image.{Dir, is_dir, File}
use Rattle.ips_outside.specs.Change.{with_entry_at}
use Rattle.ips_outside.specs.State.{State, ChangedWithin, nowhere}
use Rattle.ips_folder.specs.Calls.{CanMake}
use Rattle.ips_folder.proofs.Runs.{begun, keeps_then, weaker}
use Rattle.ips_rehearse.specs.Tried.{dir_name, inner_dir_name, inner_file_name, IsBusy, IsDirOf, IsIdle, Passed, WasWorked}
use Rattle.ips_rehearse.proofs.Paths.{inner_dir_path, inner_file_path, inner_dir_parent, inner_file_parent, inner_apart}
use Rattle.ips_rehearse.proofs.Trials.{wrote_in, off_child, can_make, can_make_beside, not_below_self}
use Rattle.ips_rehearse.proofs.trying.work.Goals as goal

pub go-requires-clause-path : goal.go-requires-clause-path
go-requires-clause-path g c = inner_dir_path

pub go-requires-2-clause-path : goal.go-requires-2-clause-path
go-requires-2-clause-path g c = inner_file_path

pub make_dir-requires-clause-can : goal.make_dir-requires-clause-can
make_dir-requires-clause-can g c = λ told.
    can_make dir_name c.go.new.path.bytes (g.F.Source.outside.state c.args.folder.now).held (ap parent c.go.ensures.there ∙ inner_dir_parent) (c.requires.empty told)

pub make_file-requires : goal.make_file-requires
make_file-requires g c = λ told_now.
    let o = g.F.Source.outside in
    let told = sym c.make_dir.ensures.call.same_kind ∙ told_now in
    subst (CanMake (o.state c.make_dir.new.self).held) (sym c.go-2.ensures.there)
    (can_make_beside dir_name (codes "var/pkg/stage/try/dir/file") (codes "var/pkg/stage/try/dir/dir") (Some (Dir 448 false)) (o.state c.args.folder.now).held (o.state c.make_dir.new.self).held inner_file_parent inner_dir_parent inner_apart (c.requires.empty told)
    (ap (λ (s : State). s.held) (c.in-Ok.ensures.done told) ∙ ap (λ (p : List ℕ). with_entry_at p (Some (Dir 448 false)) (o.state c.args.folder.now).held) c.go.ensures.there))

pub returns-in_default-clause-any_moment : goal.returns-in_default-clause-any_moment
returns-in_default-clause-any_moment g c = λ told.
    let p = c.go.new.path.bytes in
    wrote_in g.F.Source.outside g.met.F.Source.sane (is_below dir_name) nowhere p (off_child dir_name p (ap parent c.go.ensures.there ∙ inner_dir_parent)) c.args.folder.now c.make_dir.new.self _ c.make_dir.result told c.make_dir.ensures

pub returns-in_default-make_file-clause-any_moment : goal.returns-in_default-make_file-clause-any_moment
returns-in_default-make_file-clause-any_moment g c = λ told.
    let o = g.F.Source.outside in
    let p = c.go.new.path.bytes in
    let r = c.go-2.new.path.bytes in
    keeps_then o (is_below dir_name) nowhere c.args.folder.now c.make_dir.new.self c.make_file.new.self
    (wrote_in o g.met.F.Source.sane (is_below dir_name) nowhere p (off_child dir_name p (ap parent c.go.ensures.there ∙ inner_dir_parent)) c.args.folder.now c.make_dir.new.self _ c.make_dir.result told c.make_dir.ensures)
    (wrote_in o g.met.F.Source.sane (is_below dir_name) nowhere r (off_child dir_name r (ap parent c.go-2.ensures.there ∙ inner_file_parent)) c.make_dir.new.self c.make_file.new.self _ c.make_file.result (c.make_dir.ensures.call.same_kind ∙ told) c.make_file.ensures)

pub returns-then-not-is_worked-clause-any_moment : goal.returns-then-not-is_worked-clause-any_moment
returns-then-not-is_worked-clause-any_moment g c = λ told. begun g.F.Source.outside (is_below dir_name) nowhere c.args.folder.now (g.met.F.Source.sane.only_now c.args.folder.now)

pub clear-requires-clause-stands : goal.clear-requires-clause-stands
clear-requires-clause-stands g c = λ told_now.
    let o = g.F.Source.outside in
    let told_1 = sym c.make_file.ensures.call.same_kind ∙ told_now in
    let told = sym c.make_dir.ensures.call.same_kind ∙ told_1 in
    let p = c.go.new.path.bytes in
    let r = c.go-2.new.path.bytes in
    ap is_dir ((wrote_in o g.met.F.Source.sane (is_below dir_name) nowhere r (off_child dir_name r (ap parent c.go-2.ensures.there ∙ inner_file_parent)) c.make_dir.new.self c.make_file.new.self _ c.make_file.result told_1 c.make_file.ensures).now.agrees.look dir_name (not_below_self dir_name) refl)
    ∙ ap is_dir ((wrote_in o g.met.F.Source.sane (is_below dir_name) nowhere p (off_child dir_name p (ap parent c.go.ensures.there ∙ inner_dir_parent)) c.args.folder.now c.make_dir.new.self _ c.make_dir.result told c.make_dir.ensures).now.agrees.look dir_name (not_below_self dir_name) refl)
    ∙ (c.requires.empty told).stands

pub returns-clause-any_moment : goal.returns-clause-any_moment
returns-clause-any_moment g c = λ told.
    let o = g.F.Source.outside in
    let p = c.go.new.path.bytes in
    let r = c.go-2.new.path.bytes in
    let told_2 = c.make_file.ensures.call.same_kind ∙ c.make_dir.ensures.call.same_kind ∙ told in
    keeps_then o (is_below dir_name) nowhere c.args.folder.now c.make_file.new.self c.clear.new.folder
    (keeps_then o (is_below dir_name) nowhere c.args.folder.now c.make_dir.new.self c.make_file.new.self
    (wrote_in o g.met.F.Source.sane (is_below dir_name) nowhere p (off_child dir_name p (ap parent c.go.ensures.there ∙ inner_dir_parent)) c.args.folder.now c.make_dir.new.self _ c.make_dir.result told c.make_dir.ensures)
    (wrote_in o g.met.F.Source.sane (is_below dir_name) nowhere r (off_child dir_name r (ap parent c.go-2.ensures.there ∙ inner_file_parent)) c.make_dir.new.self c.make_file.new.self _ c.make_file.result (c.make_dir.ensures.call.same_kind ∙ told) c.make_file.ensures))
    (c.clear.ensures.any_moment told_2)

pub returns-then-not-is_worked-clause-seen : goal.returns-then-not-is_worked-clause-seen
returns-then-not-is_worked-clause-seen g c = λ told m is. (pass_none g.F.Source.outside c.args.folder.now, λ asked. clash c.args.is_worked asked c.if-not-is_worked.true)

pub returns-clause-seen : goal.returns-clause-seen
returns-clause-seen g c = λ told m is.
    let o = g.F.Source.outside in
    let t = (o.state c.args.folder.now).held in
    let told_1 = c.make_dir.ensures.call.same_kind ∙ told in
    let told_2 = c.make_file.ensures.call.same_kind ∙ told_1 in
    let first : (o.state c.make_dir.new.self).held ≡ with_entry_at inner_dir_name (Some (Dir 448 false)) t =
    ap (λ (s : State). s.held) (c.in-Ok.ensures.done told) ∙ ap (λ (p : List ℕ). with_entry_at p (Some (Dir 448 false)) t) (c.go.ensures.there ∙ inner_dir_is) in
    let both : (o.state c.make_file.new.self).held ≡ with_both t =
    ap (λ (s : State). s.held) (c.in-Ok-make_file.ensures.done told_1) ∙ ap (λ (p : List ℕ). with_entry_at p (Some (File 384 [])) (o.state c.make_dir.new.self).held) (c.go-2.ensures.there ∙ inner_file_is)
    ∙ ap (with_entry_at inner_file_name (Some (File 384 []))) first in
    let busy : IsBusy m (o.state c.make_file.new.self).held = subst (IsBusy m) (sym both) (is_busy m t is) in
    let before = pass_then o c.args.folder.now c.make_dir.new.self c.make_file.new.self (pass_call o c.args.folder.now c.make_dir.new.self _ c.make_dir.ensures.call) (pass_call o c.make_dir.new.self c.make_file.new.self _ c.make_file.ensures.call) in
    on_ok_to c.clear.result (Passed o c.args.folder.now c.clear.new.folder × (IsTrue c.args.is_worked → WasWorked o m c.args.folder.now c.clear.new.folder))
    (λ seen. (
      pass_then o c.args.folder.now c.make_file.new.self c.clear.new.folder before seen.0,
      λ asked. record {
        at = c.make_file.new.self;
        since = before;
        busy = busy;
        then = record {
          at = c.clear.new.folder;
          since = seen.0;
          until = pass_none o c.clear.new.folder;
          held = subst (IsIdle m) (sym (seen.1 ∙ ap without_both both)) (is_idle m t is (c.requires.empty told));
        };
        still = weaker o c.make_file.new.self c.clear.new.folder (ChangedWithin (is_below dir_name) nowhere (o.state c.make_file.new.self)) (λ s. IsDirOf m s.held)
            (λ s within. within.agrees.look dir_name (not_below_self dir_name) refl ∙ busy.dir) (c.clear.ensures.any_moment told_2).moments;
      },
    ))
    (c.clear.ensures.seen told_2)
