use Rattle.std.proofs.Common.{◌≡◌, ◌<◌, ◌≤◌, ℕ, ◌&&◌, Bool, List, length, take, take_all, sym, ap, subst, ◌∙◌, arith}
use Rattle.std.specs.List.{list_any}
use Rattle.std.proofs.lemmas.Option.{slice_get_within}
use Rattle.ips_text.specs.Ancestry.{covers}
use Rattle.ips_outside.specs.Image.{Image}
use Rattle.ips_outside.specs.State.{State}
use Rattle.ips_outside.proofs.Reading.{reads_then}
use Rattle.ips_after.specs.Repaired.{displaces}
use Rattle.ips_after.specs.Request.{Want}
use Rattle.ips_change.specs.content.Failing.{HasFailed}
use Rattle.ips_change.specs.wanted.Wanted.{wanted_of}
use Rattle.ips_change.specs.Told.{change_told}
use Rattle.ips_found.specs.Found.{AreThings}
use Rattle.ips_strays.specs.Strays.{Adds}
use Rattle.ips_strays.proofs.Gathered.{adds_as}
use Rattle.ips_mend.specs.displaced.Displacing.{displaces_by}
use Rattle.ips_mend.proofs.displaced.Adding.{adds_entry, displaces_here, paths_of}
use Rattle.ips_mend.proofs.displaced.displacing.gather_all.Goals as goal

pub loop-i-preserved : goal.loop-i-preserved
loop-i-preserved g c =
    let o = g.F.Source.outside in
    let start = c.args.folder.now in
    let u = (o.state start).held in
    let entries = c.args.want.now in
    let changes = c.args.changes.now in
    let i = c.loop-i.i in
    let p = c.in-Some.path.now.bytes in
    let e = c.in-Some.entry.now in
    let there = c.in-Some.ensures.some in
    let change = c.index-changes-i.result in
    let old = c.args.things.now.items in
    let mid = c.loop-i.things.items in
    let new = c.add.new.things.items in
    let inv = c.loop-i.invariant in
    let kept : (o.state c.loop-i.folder).held ≡ u = ap (λ (s : State). s.held) inv.reads.kept in
    let within : i < length entries = slice_get_within entries i (p, e) there in
    let lt : i < length changes = omega (arith, within, c.requires) in
    record {
      reads = reads_then o start c.loop-i.folder c.add.new.folder (HasFailed c.add.result) ⊥ inv.reads c.add.ensures.reads (λ f. subst (λ (r : _). HasFailed r) c.in_ok-add.was f) (λ f. absurd f);
      so_far = λ told f is are.
          let one : Adds u (λ q. displaces_by p (wanted_of e) (change_told f.bytes change) (u.look p) && covers p q) mid new =
          subst (λ (v : Image). Adds v (λ q. displaces_by p (wanted_of e) (change_told f.bytes change) (v.look p) && covers p q) mid new) kept (c.in_ok-add.ensures.found (inv.reads.call.same_kind ∙ told) f.bytes) in
          let here : Adds u (λ q. displaces f u p && covers p q) mid new =
          adds_as u (λ q. displaces_by p (wanted_of e) (change_told f.bytes change) (u.look p) && covers p q) (λ q. displaces f u p && covers p q) mid new one
          (λ q stands. ap (λ (b : Bool). b && covers p q) (displaces_here f u entries i p e (change_told f.bytes) changes change is c.len-i-end.ensures.in_order are lt c.index-changes-i.is there)) in
          adds_entry u (λ x q. displaces f u x && covers x q) entries i p e old mid new there (inv.so_far told f is are) here;
      things = λ told all.
          let asked = (c.in_ok-add.ensures.found (inv.reads.call.same_kind ∙ told) (λ (x : List ℕ). x)).things in
          subst (λ (v : Image). AreThings v mid → AreThings v new) kept asked (inv.things told all);
    }

pub returns-clause-found : goal.returns-clause-found
returns-clause-found g c = λ told f is are.
    let u = (g.F.Source.outside.state c.args.folder.now).held in
    let entries = c.args.want.now in
    let i = c.loop-i.i in
    let over : length entries ≤ i = omega (arith, c.loop-i-test.false, c.len-i-end.ensures.count) in
    let keys : paths_of (take i entries) ≡ f.want.keys = ap paths_of (take_all i entries over) ∙ sym (ap (λ (w : Want). w.keys) is) in
    subst (λ (l : List (List ℕ)). Adds u (λ q. list_any (λ p. displaces f u p && covers p q) l) c.args.things.now.items c.loop-i.things.items) keys (c.loop-i.invariant.so_far told f is are)
