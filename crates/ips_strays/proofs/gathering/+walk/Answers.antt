use Rattle.std.proofs.Common.{◌≡◌, ◌+◌, ◌≤◌, ◌&&◌, false, ◌++◌, ◌∷◌, [], ℕ, List, length, map, take_all, sym, ◌∙◌, ap, subst, arith}
use Rattle.std.proofs.lemmas.Bool.{false_from_ne_true, lt-ltb, ltb-true}
use Rattle.ips_text.specs.Ancestry.{covers, same_path}
use Rattle.ips_text.specs.Kept.{Kept}
use Rattle.ips_outside.specs.Children.{AreChildren, path_bytes}
use Rattle.ips_outside.specs.Image.{Image}
use Rattle.ips_outside.specs.Outside.{Reads}
use Rattle.ips_outside.specs.State.{State}
use Rattle.ips_outside.proofs.Reading.{reads_none, reads_then}
use Rattle.ips_outside.proofs.Rooms.{path_fits}
use Rattle.ips_change.specs.content.Failing.{HasFailed}
use Rattle.ips_found.specs.declared.found.Thing.{Thing}
use Rattle.ips_found.specs.Found.{found_of, found_told}
use Rattle.ips_found.specs.declared.found.Found.{Found as Told}
use Rattle.ips_strays.specs.Strays.{Adds, seen}
use Rattle.ips_strays.proofs.Gathered.{absent_looked, adds_absent, adds_children, adds_flagged, adds_looked, adds_next, adds_one, adds_self, adds_unflagged, file_looked, first_of, link_looked, longer, other_looked, self_or_among}
use Rattle.ips_strays.proofs.gathering.+walk.Goals.{gather-in-File, gather-in-Link+in_ok-found-in-Link, gather-in-Other, gather_dir-then-bytes+in_ok-gather, gather_dir-else-bytes}
use Rattle.ips_strays.proofs.gathering.+walk.Goals as goal

pub gather-returns-in-Absent-clause-found : goal.gather-returns-in-Absent-clause-found
gather-returns-in-Absent-clause-found g t c = λ told.
    let u = (g.F.Source.outside.state c.args.folder.now).held in
    let p = c.args.path.now.bytes in
    adds_absent u p c.args.strays.now.items (g.met.F.Source.sane.formed c.args.folder.now told) (absent_looked (u.look p) c.in_ok-look_at.field-0 (c.in_ok-look_at.ensures.found told) c.in-Absent.is)

pub gather-returns-clause-found : goal.gather-returns-clause-found
gather-returns-clause-found g t c = λ told.
    let u = (g.F.Source.outside.state c.args.folder.now).held in
    let p = c.args.path.now.bytes in
    let old = c.args.strays.now.items in
    let new = c.add.new.things.items in
    let looked = c.in_ok-look_at.ensures.found told in
    let formed = g.met.F.Source.sane.formed c.args.folder.now told in
    let added : (f : Told) → c.match-branch-2.found ≡ f → map seen new ≡ map seen old ++ (p, found_told f) ∷ [] = λ f is. c.in_ok-add.ensures ∙ ap (λ (x : Told). map seen old ++ (p, found_told x) ∷ []) is in
    elim c.match-branch-2.branch [
      | gather-in-File w ↦ adds_looked u p _ old new formed (file_looked (u.look p) _ _ (sym w.in-File.is ∙ looked)) (added _ w.found-is)
      | gather-in-Link+in_ok-found-in-Link w ↦
          let reads = c.in_ok-look_at.ensures.reads in
          let said = w.in_ok-found-in-Link.ensures.found (reads.call.same_kind ∙ told) ∙ ap (λ (s : State). found_of (s.held.look p)) reads.kept in
          adds_looked u p _ old new formed (link_looked (u.look p) _ (sym w.in-Link.is ∙ looked) said) (added _ w.found-is)
      | gather-in-Other w ↦ adds_looked u p _ old new formed (other_looked (u.look p) (sym w.in-Other.is ∙ looked)) (added _ w.found-is)
    ]

pub gather_dir-loop-child-init : goal.gather_dir-loop-child-init
gather_dir-loop-child-init g t c = record {
  reads = reads_none g.F.Source.outside c.args.folder.now ⊥ (λ f. f);
  so_far = λ told.
      let u = (g.F.Source.outside.state c.args.folder.now).held in
      adds_self u c.args.dir.now.bytes c.args.strays.now.items c.add.new.things.items (adds_one u c.args.dir.now.bytes _ c.args.strays.now.items c.add.new.things.items c.in_ok-add.ensures (sym (ap found_of (c.requires.stands told))));
}

pub gather_dir-gather-requires : goal.gather_dir-gather-requires
gather_dir-gather-requires g t c κs within =
    let few : length c.args.dir.now.bytes ≤ 1023 = path_fits c.args.dir.now.bytes c.bytes-in-loop-child.ensures.path in
    let dir = ap length c.bytes-in-loop-child.ensures.value in
    let child = ap length c.bytes.ensures.value in
    (omega (arith, few, dir, child, c.if-bytes.true, c.decreases), within)

pub gather_dir-loop-child-preserved : goal.gather_dir-loop-child-preserved
gather_dir-loop-child-preserved g t c =
    let o = g.F.Source.outside in
    let start = c.args.folder.now in
    let u = (o.state start).held in
    let dir = c.args.dir.now.bytes in
    let paths = c.as_slice-children.result.now in
    let i = c.loop-child.child-index in
    let path = c.child-item.result in
    let old = c.args.strays.now.items in
    let mid = c.loop-child.strays.items in
    let inv = c.loop-child.invariant in
    let kept : (o.state c.loop-child.folder).held ≡ u = ap (λ (s : State). s.held) inv.reads.kept in
    let one = ap length c.bytes.ensures.value in
    let all = ap length c.bytes-in-loop-child.ensures.value in
    elim c.if-bytes.branch [
      | gather_dir-then-bytes+in_ok-gather w ↦ record {
        reads = subst (λ f. Reads o start f ⊥) (sym w.folder-is)
            (reads_then o start c.loop-child.folder w.gather.new.folder (HasFailed w.gather.result) ⊥ inv.reads w.gather.ensures.reads (λ f. subst (λ (r : _). HasFailed r) w.in_ok-gather.was f) (λ f. absurd f));
        so_far = λ told.
            let more = subst (λ (v : Image). Adds v (covers path.bytes) mid w.gather.new.strays.items) kept (w.in_ok-gather.ensures.found (inv.reads.call.same_kind ∙ told)) in
            let behind = lt-ltb (length dir) (length path.bytes) (omega (arith, one, all, w.if-bytes.true)) in
            subst (λ (l : List Thing). Adds u (self_or_among dir (first_of paths (i + 1))) old l) (sym (ap (λ v. v.items) w.strays-is))
            (adds_next u (same_path dir) (λ c q. longer dir c && covers c q) paths i path old mid w.gather.new.strays.items c.loop-child-test.true c.child-item.is (inv.so_far told)
            (adds_flagged u (longer dir path.bytes) (covers path.bytes) mid w.gather.new.strays.items behind more));
      }
      | gather_dir-else-bytes w ↦ record {
        reads = subst (λ f. Reads o start f ⊥) (sym w.folder-is) inv.reads;
        so_far = λ told.
            let apart : longer dir path.bytes ≡ false = false_from_ne_true _ (λ h. omega (arith, one, all, ltb-true (length dir) (length path.bytes) h, w.if-bytes.false)) in
            subst (λ (l : List Thing). Adds u (self_or_among dir (first_of paths (i + 1))) old l) (sym (ap (λ v. v.items) w.strays-is))
            (adds_next u (same_path dir) (λ c q. longer dir c && covers c q) paths i path old mid mid c.loop-child-test.true c.child-item.is (inv.so_far told)
            (adds_unflagged u (longer dir path.bytes) (covers path.bytes) mid apart));
      }
    ]

pub gather_dir-returns-clause-found : goal.gather_dir-returns-clause-found
gather_dir-returns-clause-found g t c = λ told.
    let u = (g.F.Source.outside.state c.args.folder.now).held in
    let dir = c.args.dir.now.bytes in
    let paths = c.as_slice-children.result.now in
    let all = ap (λ (l : List Kept). path_bytes l) (take_all c.loop-child.child-index paths (omega arith)) in
    let are = subst (AreChildren u dir) (sym c.as_slice-children.ensures) (c.requires.listing told).children in
    adds_children u dir (path_bytes paths) c.args.strays.now.items c.loop-child.strays.items (g.met.F.Source.sane.formed c.args.folder.now told) are
    (subst (λ (l : List (List ℕ)). Adds u (self_or_among dir l) c.args.strays.now.items c.loop-child.strays.items) all (c.loop-child.invariant.so_far told))
