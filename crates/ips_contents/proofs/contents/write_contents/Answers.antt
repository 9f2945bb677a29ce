use Rattle.std.proofs.Common.{◌≡◌, ℕ, ◌<◌, Bool, true, List, length, map, refl, sym, ◌∙◌, ap, subst, arith}
use Rattle.std.proofs.lemmas.List.{length-map}
use Rattle.std.proofs.lemmas.Option.{slice_get_within}
use Rattle.ips_text.specs.Ancestry.{covers}
use Rattle.ips_outside.specs.Image.{Image, is_dir}
use Rattle.ips_outside.specs.State.{State}
use Rattle.ips_folder.proofs.Runs.{begun, keeps_then, keeps_wider}
use Rattle.ips_steps.specs.Steps.{stage_name, stage_path}
use Rattle.ips_outside.proofs.Faults.{no_cause}
use Rattle.ips_outside.proofs.Reading.{reads_none, reads_then, reads_as}
use Rattle.ips_contents.specs.Contents.{IsIntactContent, SaysOfContent, SaysOfStage, HoldsAlone}
use Rattle.ips_steps.specs.View.{step_of}
use Rattle.ips_journal.specs.Reading.{puts_in}
use Rattle.ips_steps.proofs.Numbered.{content_above}
use Rattle.ips_contents.proofs.AllWritten.{IsIntactAt, can_put, standing_in_stage, content_then, content_apart, content_in_stage, wrote_at, here, written_more, empty_more, only_more, content_below, each_more, says_of_stage, cause_since, as_bad, none_alone, alone_more}
use Rattle.ips_contents.proofs.Puts.{counted_more, modes_more, have_modes}
use Rattle.ips_contents.proofs.Written.{own_modes}
use Rattle.ips_contents.proofs.contents.write_contents.Goals as goal

pub loop-number-init : goal.loop-number-init
loop-number-init g c = record {
  kind = refl;
  faults = refl;
  changes = omega arith;
  reads = reads_none g.S.Source.outside c.args.source.now ⊥ (λ f. f);
  stage = c.requires.stage;
  stands = λ told. refl;
  empty = λ told n le small. c.requires.empty told (stage_path n) (content_below n);
  only = λ told q below there. absurd (there (c.requires.empty told q below));
  written = λ told n s lt at. absurd (omega (arith, lt));
  intact = λ told n s lt at. absurd (omega (arith, lt));
  within = omega arith;
  counted = λ told. refl;
  modes = λ told k n m p lt at. absurd (omega (arith, lt));
  alone = λ told. none_alone (g.F.Source.outside.state c.args.folder.now).held (g.met.F.Source.sane.formed c.args.folder.now told) (c.requires.empty told);
  moments = λ told. begun g.F.Source.outside (covers stage_name) (covers stage_name) c.args.folder.now (g.met.F.Source.sane.only_now c.args.folder.now);
}

pub write_content-requires-clause-can : goal.write_content-requires-clause-can
write_content-requires-clause-can g c = λ told_now.
    let inv = c.loop-number.invariant in
    let told = sym inv.kind ∙ told_now in
    can_put (g.F.Source.outside.state c.loop-number.folder).held c.loop-number.number c.in_ok-path.path.bytes c.in_ok-path.ensures (inv.empty told c.loop-number.number (omega arith) (omega arith)) (inv.stage told)

pub write_content-requires-clause-standing : goal.write_content-requires-clause-standing
write_content-requires-clause-standing g c = λ told_now.
    let inv = c.loop-number.invariant in
    let told = sym inv.kind ∙ told_now in
    let at = here c.args.staged.now c.loop-number.number c.index-staged-number.result c.loop-number-test.true c.index-staged-number.is in
    standing_in_stage (g.F.Source.outside.state c.args.folder.now).held (g.F.Source.outside.state c.loop-number.folder).held (own_modes (covers stage_name) _ _ (inv.moments told).now.agrees) c.index-staged-number.result
    (c.requires.seen c.loop-number.number c.index-staged-number.result at) (c.requires.standing told c.loop-number.number c.index-staged-number.result at)

pub write_content-requires-clause-apart : goal.write_content-requires-clause-apart
write_content-requires-clause-apart g c =
    content_apart c.loop-number.number c.in_ok-path.path.bytes c.in_ok-path.ensures c.index-staged-number.result
    (c.requires.seen c.loop-number.number c.index-staged-number.result (here c.args.staged.now c.loop-number.number c.index-staged-number.result c.loop-number-test.true c.index-staged-number.is))

pub returns-in-Err-clause-stages : goal.returns-in-Err-clause-stages
returns-in-Err-clause-stages g c =
    let o = g.F.Source.outside in
    let q = g.S.Source.outside in
    let inv = c.loop-number.invariant in
    let source = c.args.source.now in
    let staged = c.args.staged.now in
    let publisher = c.args.publisher.now in
    let s = c.index-staged-number.result in
    let why = c.in-Err.fault in
    let writes = c.in-Err.ensures.writes in
    let kind : q.tells c.loop-number.source ≡ q.tells source = inv.reads.call.same_kind in
    let same : (q.state c.loop-number.source).held ≡ (q.state source).held = ap (λ (x : State). x.held) inv.reads.kept in record {
      intact = λ told. tt;
      refused = as_bad (Unit {0}) why (SaysOfContent (q.tells c.loop-number.source) (q.state c.loop-number.source).held publisher s) (SaysOfStage (q.tells source) (q.state source).held publisher staged)
          (λ why says. says_of_stage (q.tells source) (q.state source).held publisher staged c.loop-number.number s (here staged c.loop-number.number s c.loop-number-test.true c.index-staged-number.is) inv.intact why
          (subst (λ (b : Bool). SaysOfContent b (q.state source).held publisher s why) kind (subst (λ (t : Image). SaysOfContent (q.tells c.loop-number.source) t publisher s why) same says)))
          c.in-Err.ensures.refused;
      reads = reads_then q source c.loop-number.source c.write_content.new.source _ _ inv.reads writes.reads (λ is. is) (λ is. is);
      cause = cause_since (o.faults c.args.folder.now) (o.faults c.loop-number.folder) (o.faults c.write_content.new.folder) _ inv.faults writes.cause;
      same_kind = writes.same_kind ∙ inv.kind;
      changes = omega (arith, inv.changes, writes.changes);
    }

pub returns-in-Err-clause-any_moment : goal.returns-in-Err-clause-any_moment
returns-in-Err-clause-any_moment g c = λ told.
    let inv = c.loop-number.invariant in
    let inside = content_in_stage c.loop-number.number c.in_ok-path.path.bytes c.in_ok-path.ensures in
    keeps_then g.F.Source.outside (covers stage_name) (covers stage_name) c.args.folder.now c.loop-number.folder c.write_content.new.folder (inv.moments told)
    (keeps_wider g.F.Source.outside (covers c.in_ok-path.path.bytes) (covers c.in_ok-path.path.bytes) (covers stage_name) (covers stage_name) c.loop-number.folder c.write_content.new.folder inside inside
    (c.write_content.ensures.writes.any_moment (inv.kind ∙ told)))

pub loop-number-preserved : goal.loop-number-preserved
loop-number-preserved g c =
    let o = g.F.Source.outside in
    let o_sane = g.met.F.Source.sane in
    let so = g.S.Source.outside in
    let inv = c.loop-number.invariant in
    let i = c.loop-number.number in
    let s = c.index-staged-number.result in
    let staged = c.args.staged.now in
    let publisher = c.args.publisher.now in
    let p = c.in_ok-path.path.bytes in
    let t0 = (o.state c.args.folder.now).held in
    let t = (o.state c.loop-number.folder).held in
    let u = (o.state c.write_content.new.folder).held in
    let kind : so.tells c.loop-number.source ≡ so.tells c.args.source.now = inv.reads.call.same_kind in
    let same : (so.state c.loop-number.source).held ≡ (so.state c.args.source.now).held = ap (λ (x : State). x.held) inv.reads.kept in
    let steps = map step_of c.args.steps.now in
    let mode = c.next_put-mode.result.0 in
    let next = c.next_put-mode.result.1 in
    let isnext = c.next_put-mode.ensures in
    let wrote = λ (told : o.tells c.args.folder.now ≡ true). wrote_at i p c.in_ok-path.ensures t u (c.write_content.ensures.writes.any_moment (inv.kind ∙ told)).now.agrees in
    let formed = λ (told : o.tells c.args.folder.now ≡ true). o_sane.formed c.write_content.new.folder (c.write_content.ensures.writes.same_kind ∙ inv.kind ∙ told) in
    let its_own = λ (told : o.tells c.args.folder.now ≡ true). subst (λ (x : List ℕ). HoldsAlone x mode (c.in-Ok.ensures.written (inv.kind ∙ told)).0 u) c.in_ok-path.ensures (c.in-Ok.ensures.written (inv.kind ∙ told)).1 in
    let more : o.tells c.args.folder.now ≡ true → i < puts_in steps = λ told. omega (arith, c.requires.counted told, c.loop-number-test.true) in
    record {
      kind = c.write_content.ensures.writes.same_kind ∙ inv.kind;
      changes = omega (arith, inv.changes, c.write_content.ensures.writes.changes);
      faults = c.write_content.ensures.writes.cause.steady (λ failed. let bad = sym c.in-Ok.is ∙ failed in cc) ∙ inv.faults;
      reads = reads_then so c.args.source.now c.loop-number.source c.write_content.new.source _ ⊥ inv.reads c.write_content.ensures.writes.reads (λ failed. let bad = sym c.in-Ok.is ∙ failed in cc) (λ f. absurd f);
      stage = λ told. ap is_dir ((wrote told).look stage_name (content_above i) refl) ∙ inv.stage told;
      stands = λ told. (wrote told).look stage_name (content_above i) refl ∙ inv.stands told;
      empty = λ told.
          empty_more staged i s c.loop-number-test.true c.index-staged-number.is (so.tells c.args.source.now) (so.state c.args.source.now).held publisher t0 t u (omega arith) (wrote told) (inv.empty told);
      only = λ told.
          let made = c.in-Ok.ensures.written (inv.kind ∙ told) in
          only_more i t u (wrote told) (formed told) mode made.0 (its_own told).file (inv.only told);
      written = λ told.
          let made = c.in-Ok.ensures.written (inv.kind ∙ told) in
          let at = here staged i s c.loop-number-test.true c.index-staged-number.is in
          written_more staged i s c.loop-number-test.true c.index-staged-number.is (so.tells c.args.source.now) (so.state c.args.source.now).held publisher t0 t u (omega arith) (wrote told) mode made.0
          (its_own told).file
          (content_then t0 t (own_modes (covers stage_name) t0 t (inv.moments told).now.agrees) s (c.requires.seen i s at) (so.tells c.loop-number.source) (so.tells c.args.source.now) (so.state c.loop-number.source).held (so.state c.args.source.now).held publisher kind same made.0 made.2)
          (inv.written told);
      intact = λ told. each_more staged i s c.loop-number-test.true c.index-staged-number.is (IsIntactAt (so.state c.args.source.now).held publisher)
          (subst (λ (r : Image). IsIntactContent r publisher s) same (c.in-Ok.ensures.intact (kind ∙ told))) (inv.intact told);
      within = omega (arith, isnext.within, length-map c.args.steps.now step_of);
      counted = λ told. counted_more steps c.requires.lists i c.loop-number.place mode next isnext (inv.counted told) (more told);
      modes = λ told. modes_more steps c.requires.lists i c.loop-number.place mode next isnext (inv.counted told) (more told) t u (omega arith) (wrote told) (c.in-Ok.ensures.written (inv.kind ∙ told)).0 (its_own told).file (inv.modes told);
      alone = λ told. alone_more i mode (omega arith) (c.in-Ok.ensures.written (inv.kind ∙ told)).0 t u (wrote told) (formed told) (its_own told) (inv.alone told);
      moments = λ told. keeps_then o (covers stage_name) (covers stage_name) c.args.folder.now c.loop-number.folder c.write_content.new.folder (inv.moments told)
          (keeps_wider o (covers p) (covers p) (covers stage_name) (covers stage_name) c.loop-number.folder c.write_content.new.folder (content_in_stage i p c.in_ok-path.ensures) (content_in_stage i p c.in_ok-path.ensures)
          (c.write_content.ensures.writes.any_moment (inv.kind ∙ told)));
    }

pub returns-clause-written : goal.returns-clause-written
returns-clause-written g c = λ told n s at.
    c.loop-number.invariant.written told n s (omega (arith, slice_get_within c.args.staged.now n s at)) at

pub returns-clause-stages : goal.returns-clause-stages
returns-clause-stages g c =
    let o = g.F.Source.outside in
    let inv = c.loop-number.invariant in record {
      intact = λ told n s at. inv.intact told n s (omega (arith, slice_get_within c.args.staged.now n s at)) at;
      refused = tt;
      reads = reads_as g.S.Source.outside c.args.source.now c.loop-number.source ⊥ _ inv.reads (λ f. absurd f) (λ is. cc);
      cause = cause_since (o.faults c.args.folder.now) (o.faults c.loop-number.folder) (o.faults c.loop-number.folder) _ inv.faults (no_cause _ _ (λ is. cc));
      same_kind = inv.kind;
      changes = inv.changes;
    }

pub returns-clause-only : goal.returns-clause-only
returns-clause-only g c = λ told q below there.
    let old = c.loop-number.invariant.only told q below there in (old.0, omega (arith, old.1), old.2)

pub returns-clause-modes : goal.returns-clause-modes
returns-clause-modes g c = λ told.
    have_modes (map step_of c.args.steps.now) c.requires.lists (length c.args.staged.now) c.loop-number.number (g.F.Source.outside.state c.loop-number.folder).held (c.requires.counted told) (omega arith) (c.loop-number.invariant.modes told)
