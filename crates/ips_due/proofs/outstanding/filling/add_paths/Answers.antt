use Rattle.std.proofs.Common.{◌≡◌, ℕ, List, map, take, take_all, sym, ap, subst, ◌∙◌, arith}
use Rattle.ips_text.specs.Kept.{Kept}
use Rattle.ips_text.proofs.Lists.{map_item}
use Rattle.ips_outside.specs.Image.{Image}
use Rattle.ips_outside.specs.State.{State}
use Rattle.ips_outside.proofs.Reading.{reads_then}
use Rattle.ips_change.specs.content.Failing.{HasFailed}
use Rattle.ips_due.specs.outstanding.Noted.{Adds}
use Rattle.ips_due.specs.outstanding.Verdicts.{role_said}
use Rattle.ips_due.proofs.outstanding.Noting.{adds_more}
use Rattle.ips_due.proofs.outstanding.filling.add_paths.Goals as goal

pub loop-i-preserved : goal.loop-i-preserved
loop-i-preserved g c =
    let paths = c.args.paths.now in
    let i = c.loop-i.i in
    let row = c.index-paths-i.result in
    let t = (g.S.Source.outside.state c.args.source.now).held in
    let u = (g.S.Source.outside.state c.loop-i.source).held in
    let kept : u ≡ t = ap (λ (s : State). s.held) c.loop-i.invariant.reads.kept in
    record {
      marked = c.in_ok-add_path.ensures.marked;
      reads = reads_then g.S.Source.outside c.args.source.now c.loop-i.source c.add_path.new.source (HasFailed c.add_path.result) _ c.loop-i.invariant.reads c.add_path.ensures.reads (λ f. subst (λ (r : _). HasFailed r) c.in_ok-add_path.was f) (λ f. absurd f);
      so_far = λ told bytes due.
          subst (λ (l : List (List ℕ)). Adds bytes due c.args.notes.now c.add_path.new.notes l (λ q. role_said c.args.role (t.look q))) (sym (map_item (λ (p : Kept). p.bytes) paths i row c.loop-i-test.true c.index-paths-i.is))
          (adds_more bytes due c.args.notes.now c.loop-i.notes c.add_path.new.notes (map (λ (p : Kept). p.bytes) (take i paths)) row.bytes (λ q. role_said c.args.role (t.look q)) (role_said c.args.role (u.look row.bytes)) (c.loop-i.invariant.so_far told bytes due)
          (c.in_ok-add_path.ensures.found (c.loop-i.invariant.reads.call.same_kind ∙ told) bytes due) (λ apart. ap (λ (x : Image). role_said c.args.role (x.look row.bytes)) kept));
    }

pub returns-clause-found : goal.returns-clause-found
returns-clause-found g c = λ told bytes due.
    subst (λ (l : List Kept). Adds bytes due c.args.notes.now c.loop-i.notes (map (λ (p : Kept). p.bytes) l) (λ q. role_said c.args.role ((g.S.Source.outside.state c.args.source.now).held.look q))) (take_all c.loop-i.i c.args.paths.now (omega (arith, c.loop-i-test.false)))
    (c.loop-i.invariant.so_far told bytes due)
