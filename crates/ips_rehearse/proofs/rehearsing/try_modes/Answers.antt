use Rattle.std.proofs.Common.{refl, ◌∙◌, subst, arith}
use Rattle.ips_rehearse.proofs.Passing.{all_below, more_below, none_below, pass_none, pass_then}
use Rattle.ips_text.specs.Ancestry.{is_below}
use Rattle.ips_outside.proofs.Reading.{answered}
use Rattle.ips_folder.proofs.Runs.{begun, keeps_then}
use Rattle.ips_rehearse.specs.Tried.{try_name, IsFailure}
use Rattle.ips_rehearse.proofs.rehearsing.try_modes.Goals as goal

pub loop-mode-init : goal.loop-mode-init
loop-mode-init g c = record {
  path = c.requires.path;
  other = c.requires.other;
  kind = refl;
  faults = refl;
  changes = omega arith;
  empty = c.requires.empty;
  moments = λ told. begun g.F.Source.outside (is_below try_name) (is_below try_name) c.args.folder.now (g.met.F.Source.sane.only_now c.args.folder.now);
  seen = λ told. (pass_none g.F.Source.outside c.args.folder.now, none_below g.F.Source.outside c.args.folder.now c.args.modes.now.worked.has c.args.modes.now.dirs.has c.args.modes.now.files.has);
}

pub loop-mode-preserved : goal.loop-mode-preserved
loop-mode-preserved g c =
    let o = g.F.Source.outside in
    let inv = c.loop-mode.invariant in
    let one = c.try_dir.ensures in
    let two = c.try_file_mode.ensures in
    record {
      path = two.path;
      other = one.inner;
      kind = two.calls.same_kind ∙ one.calls.same_kind ∙ inv.kind;
      faults = two.calls.cause.steady (answered c.try_file_mode.result _ c.in-Ok.is) ∙ one.calls.cause.steady (λ f. subst (λ (r : _). IsFailure r) c.in_ok-try_dir.was f) ∙ inv.faults;
      changes = omega (arith, inv.changes, one.calls.changes, two.calls.changes);
      empty = λ told. c.in-Ok.ensures.empty (one.calls.same_kind ∙ inv.kind ∙ told);
      moments = λ told. keeps_then o (is_below try_name) (is_below try_name) c.args.folder.now c.try_dir.new.folder c.try_file_mode.new.folder
          (keeps_then o (is_below try_name) (is_below try_name) c.args.folder.now c.loop-mode.folder c.try_dir.new.folder (inv.moments told) (one.any_moment (inv.kind ∙ told)))
          (two.any_moment (one.calls.same_kind ∙ inv.kind ∙ told));
      seen = λ told.
          let told_1 = inv.kind ∙ told in
          let told_2 = one.calls.same_kind ∙ told_1 in
          let so_far = inv.seen told in
          let dirs_seen = c.in_ok-try_dir.ensures.seen told_1 in
          let files_seen = c.in-Ok.ensures.seen told_2 in (
            pass_then o c.args.folder.now c.loop-mode.folder c.try_file_mode.new.folder so_far.0 (pass_then o c.loop-mode.folder c.try_dir.new.folder c.try_file_mode.new.folder dirs_seen.0 files_seen.0),
            more_below o c.args.folder.now c.loop-mode.folder c.try_dir.new.folder c.try_file_mode.new.folder c.args.modes.now.worked.has c.args.modes.now.dirs.has c.args.modes.now.files.has c.loop-mode.mode
                so_far.0 dirs_seen.0 files_seen.0 so_far.1 dirs_seen.1 dirs_seen.2 files_seen.1,
          );
    }

pub returns-clause-seen : goal.returns-clause-seen
returns-clause-seen g c = λ told.
    let so_far = c.loop-mode.invariant.seen told in
    (so_far.0, all_below g.F.Source.outside c.args.folder.now c.loop-mode.folder c.args.modes.now.worked.has c.args.modes.now.dirs.has c.args.modes.now.files.has c.loop-mode.mode (omega (arith, c.loop-mode-test.false)) (omega arith) (omega arith) (omega arith) so_far.1)
