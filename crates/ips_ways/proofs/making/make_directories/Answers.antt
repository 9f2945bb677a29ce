use Rattle.std.proofs.Common.{◌≡◌, ◌⊎◌, Bool, true, false, ◌||◌, ◌&&◌, inl, inr, refl, sym, ◌∙◌, ap, subst, arith}
use Rattle.ips_outside.specs.Image.{Image, has_parent}
use Rattle.ips_outside.specs.Children.{path_bytes}
use Rattle.ips_outside.specs.State.{nowhere}
use Rattle.ips_outside.proofs.Reading.{answered, elapses_then}
use Rattle.ips_folder.specs.Calls.{ChangesOnly}
use Rattle.ips_folder.proofs.Runs.{keeps_then, keeps_wider}
use Rattle.ips_ways.specs.Ways.{HasBegun, is_dir_or_free, is_missing}
use Rattle.ips_ways.proofs.Made.{can_next, held_more, kept_way, off_missing, still_missing, begun_then, or_first, or_second, or_both, or_either}
use Rattle.ips_ways.proofs.making.make_directories.Goals as goal
use Rattle.ips_ways.proofs.making.make_directories.Goals.{then-made, else-made}

pub make_missing-requires : goal.make_missing-requires
make_missing-requires g c = λ told_now.
    let inv = c.loop-path.invariant in
    let told = sym inv.kind ∙ told_now in
    let p = c.path-item.result.bytes in
    subst (λ (t : Image). (is_dir_or_free p (t.look p) && has_parent t p) ≡ true) (sym (inv.held told))
    (can_next c.args.paths.now (g.F.Source.outside.state c.args.folder.now).held c.loop-path.path-index c.path-item.result (c.requires told) c.loop-path-test.true c.path-item.is)

pub returns-then-made-2-clause-any_moment : goal.returns-then-made-2-clause-any_moment
returns-then-made-2-clause-any_moment g c = λ told.
    let o = g.F.Source.outside in
    let inv = c.loop-path.invariant in
    let t = (o.state c.args.folder.now).held in
    let free = is_missing t (path_bytes c.args.paths.now) in
    keeps_then o free nowhere c.args.folder.now c.loop-path.folder c.make_missing.new.folder (inv.moments told)
    (keeps_wider o _ nowhere free nowhere c.loop-path.folder c.make_missing.new.folder
    (off_missing t (o.state c.loop-path.folder).held c.args.paths.now c.loop-path.path-index c.path-item.result c.loop-path-test.true c.path-item.is (inv.room told)) (λ q off. off)
    (c.make_missing.ensures.any_moment (inv.kind ∙ told)))

pub returns-else-made-2-clause-missing : goal.returns-else-made-2-clause-missing
returns-else-made-2-clause-missing g c = λ told begun.
    let o = g.F.Source.outside in
    let inv = c.loop-path.invariant in
    still_missing (o.state c.args.folder.now).held (o.state c.loop-path.folder).held c.args.paths.now c.loop-path.path-index c.path-item.result c.loop-path-test.true c.path-item.is (inv.room told)
    (c.in-Err.ensures.missing (inv.kind ∙ told) begun)

pub returns-else-made-2-clause-any_moment : goal.returns-else-made-2-clause-any_moment
returns-else-made-2-clause-any_moment g c = λ told.
    let o = g.F.Source.outside in
    let inv = c.loop-path.invariant in
    let t = (o.state c.args.folder.now).held in
    let free = is_missing t (path_bytes c.args.paths.now) in
    keeps_then o free nowhere c.args.folder.now c.loop-path.folder c.make_missing.new.folder (inv.moments told)
    (keeps_wider o _ nowhere free nowhere c.loop-path.folder c.make_missing.new.folder
    (off_missing t (o.state c.loop-path.folder).held c.args.paths.now c.loop-path.path-index c.path-item.result c.loop-path-test.true c.path-item.is (inv.room told)) (λ q off. off)
    (c.make_missing.ensures.any_moment (inv.kind ∙ told)))

pub returns-else-made-2-clause-still : goal.returns-else-made-2-clause-still
returns-else-made-2-clause-still g c = λ none.
    elapses_then g.F.Source.outside c.args.folder.now c.loop-path.folder c.make_missing.new.folder (c.loop-path.invariant.still c.if-made-2.false) (c.in-Err.ensures.still none) (c.in-Err.ensures.kept none)

pub loop-path-preserved : goal.loop-path-preserved
loop-path-preserved g c =
    let o = g.F.Source.outside in
    let inv = c.loop-path.invariant in
    let old = c.args.folder.now in
    let at = c.loop-path.folder in
    let new = c.make_missing.new.folder in
    let t = (o.state old).held in
    let i = c.loop-path.path-index in
    let p = c.path-item.result in
    let free = is_missing t (path_bytes c.args.paths.now) in
    let same : c.if-made.made ≡ (c.loop-path.made || c.in-Ok.more) = elim c.if-made.branch [
      | then-made w ↦ or_first c.if-made.made c.loop-path.made c.in-Ok.more w.if-made.true (w.made-is ∙ w.if-made.true)
      | else-made w ↦ or_second c.if-made.made c.loop-path.made c.in-Ok.more w.if-made.false w.made-is
    ] in
    record {
      kind = c.make_missing.ensures.same_kind ∙ inv.kind;
      faults = c.make_missing.ensures.cause.steady (answered c.make_missing.result _ c.in-Ok.is) ∙ inv.faults;
      changes = omega (arith, inv.changes, c.make_missing.ensures.changes);
      begun = subst (HasBegun (o.changes old) (o.changes new)) (sym same) (begun_then (o.changes old) (o.changes at) (o.changes new) c.loop-path.made c.in-Ok.more inv.begun c.in-Ok.ensures.begun inv.changes c.make_missing.ensures.changes);
      kept = λ none. let both = or_both c.loop-path.made c.in-Ok.more (sym same ∙ none) in c.in-Ok.ensures.kept both.1 ∙ inv.kept both.0;
      still = λ none. let both = or_both c.loop-path.made c.in-Ok.more (sym same ∙ none) in elapses_then o old at new (inv.still both.0) (c.in-Ok.ensures.still both.1) (c.in-Ok.ensures.kept both.1);
      missing = λ told some. elim (or_either c.loop-path.made c.in-Ok.more (sym same ∙ some)) [
        | inl made ↦ inv.missing told made
        | inr more ↦ still_missing t (o.state at).held c.args.paths.now i p c.loop-path-test.true c.path-item.is (inv.room told) (c.in-Ok.ensures.missing (inv.kind ∙ told) more)
      ];
      held = λ told. held_more c.args.paths.now i p t (o.state at).held (o.state new).held c.loop-path-test.true c.path-item.is (inv.held told) (c.in-Ok.ensures.done (inv.kind ∙ told));
      room = λ told q way. inv.room told q (kept_way p.bytes q (o.state at).held (o.state new).held (g.met.F.Source.sane.formed at (inv.kind ∙ told)) (c.in-Ok.ensures.done (inv.kind ∙ told)) way);
      moments = λ told. keeps_then o free nowhere old at new (inv.moments told)
          (keeps_wider o _ nowhere free nowhere at new (off_missing t (o.state at).held c.args.paths.now i p c.loop-path-test.true c.path-item.is (inv.room told)) (λ q off. off) (c.make_missing.ensures.any_moment (inv.kind ∙ told)));
    }
