use Rattle.std.proofs.Common.{◌≡◌, ◌∙◌, ◌<◌, inl, inr, sym, ap, subst, true, List, ℕ, Option, Bor}
use Rattle.std.specs.Prelude.{IfSome}
use Rattle.ips_text.specs.Ancestry.{is_below}
use Rattle.ips_text.specs.Path.{IsPath}
use Rattle.ips_outside.specs.Image.{is_dir}
use Rattle.ips_outside.specs.State.{State}
use Rattle.ips_outside.proofs.Reading.{reads_none, reads_then}
use Rattle.ips_change.specs.content.Failing.{HasFailed}
use Rattle.ips_conflict.proofs.Marked.{height, height_falls}
use Rattle.ips_aside.proofs.Above.{AreLeft, found_above, left_begins, left_on, up_above, up_path}
use Rattle.ips_aside.proofs.ways.standing_above.Goals as goal

pub loop-at-init : goal.loop-at-init
loop-at-init g c =
    let root = c.args.root.now.bytes in
    let at = c.parent-at.result in
    record {
      reads = reads_none g.S.Source.outside c.args.source.now ⊥ (λ f. f);
      path = up_path c.bytes.result.now at (c.parent-at.ensures.none, c.parent-at.ensures.some) (subst IsPath (sym c.bytes.ensures.value) c.bytes.ensures.path);
      up = up_above root c.bytes.result.now at (c.parent-at.ensures.none, c.parent-at.ensures.some) (inl c.bytes.ensures.value);
      so_far = λ told. subst (λ (l : List ℕ). AreLeft (g.S.Source.outside.state c.args.source.now).held l at) c.bytes.ensures.value (left_begins (g.S.Source.outside.state c.args.source.now).held c.bytes.result.now at (c.parent-at.ensures.none, c.parent-at.ensures.some));
    }

pub returns-then-branch-clause-found : goal.returns-then-branch-clause-found
returns-then-branch-clause-found g c = λ told.
    let o = g.S.Source.outside in
    let t = (o.state c.args.source.now).held in
    let inv = c.loop-at.invariant in
    let p = c.in_ok-path.path.bytes in
    let dir : is_dir (t.look p) ≡ true = ap (λ (s : State). is_dir (s.held.look p)) (sym inv.reads.kept) ∙ sym (c.in_ok-is_dir.ensures.found (inv.reads.call.same_kind ∙ told)) ∙ c.if-branch.true in
    found_above t c.args.root.now.bytes p c.in-Some.dir c.in_ok-path.ensures (subst (AreLeft t c.args.root.now.bytes) c.in-Some.is (inv.so_far told))
    (subst (λ (x : Option (Bor (List ℕ))). IfSome x (λ d. is_below d.now c.args.root.now.bytes ≡ true)) c.in-Some.is inv.up) dir

pub loop-at-smaller : goal.loop-at-smaller
loop-at-smaller g c =
    let P : Option (Bor (List ℕ)) → Type 0 = λ o. height c.parent-at-in-Some.result < height o in
    subst P (sym c.in-Some.is) (height_falls c.in-Some.dir c.parent-at-in-Some.result (c.parent-at-in-Some.ensures.none, c.parent-at-in-Some.ensures.some))

pub loop-at-preserved : goal.loop-at-preserved
loop-at-preserved g c =
    let o = g.S.Source.outside in
    let t = (o.state c.args.source.now).held in
    let root = c.args.root.now.bytes in
    let inv = c.loop-at.invariant in
    let d = c.in-Some.dir in
    let at = c.parent-at-in-Some.result in
    let up = subst (λ (x : Option (Bor (List ℕ))). IfSome x (λ d. is_below d.now root ≡ true)) c.in-Some.is inv.up in
    record {
      reads = reads_then o c.args.source.now c.loop-at.source c.is_dir.new.source (HasFailed c.is_dir.result) ⊥ inv.reads c.is_dir.ensures.reads (λ f. subst (λ (r : _). HasFailed r) c.in_ok-is_dir.was f) (λ f. absurd f);
      path = up_path d.now at (c.parent-at-in-Some.ensures.none, c.parent-at-in-Some.ensures.some) (subst (λ (x : Option (Bor (List ℕ))). IfSome x (λ d. IsPath d.now)) c.in-Some.is inv.path);
      up = up_above root d.now at (c.parent-at-in-Some.ensures.none, c.parent-at-in-Some.ensures.some) (inr up);
      so_far = λ told.
          left_on t root d at (subst (AreLeft t root) c.in-Some.is (inv.so_far told)) (c.parent-at-in-Some.ensures.none, c.parent-at-in-Some.ensures.some)
          (ap (λ (l : List ℕ). is_dir (t.look l)) (sym c.in_ok-path.ensures) ∙ ap (λ (s : State). is_dir (s.held.look c.in_ok-path.path.bytes)) (sym inv.reads.kept) ∙ sym (c.in_ok-is_dir.ensures.found (inv.reads.call.same_kind ∙ told)) ∙ c.if-branch.false);
    }
