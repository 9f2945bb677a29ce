use Rattle.std.proofs.Common.{◌≡◌, ◌+◌, false, ◌&&◌, IsTrue, List, get_or, map, take, sym, ◌∙◌, ap, subst}
use Rattle.ips_outside.specs.Image.{Image}
use Rattle.ips_outside.specs.Outside.{Reads}
use Rattle.ips_outside.specs.State.{State}
use Rattle.ips_outside.proofs.Reading.{reads_then}
use Rattle.ips_change.specs.content.Failing.{HasFailed}
use Rattle.ips_change.specs.Told.{naming}
use Rattle.ips_after.specs.Request.{Request, takes}
use Rattle.ips_change.specs.survey.Marks.{IsMarkOf, row_paths}
use Rattle.ips_links.proofs.Linked.{at_row}
use Rattle.ips_salvage.specs.Destroying.{goes_else}
use Rattle.ips_found.specs.declared.found.Thing.{Thing}
use Rattle.ips_found.specs.Found.{AreThings}
use Rattle.ips_strays.specs.Strays.{Adds, hangs, hangs_among, opens}
use Rattle.ips_strays.proofs.Gathered.{adds_flagged, adds_unflagged}
use Rattle.ips_strays.proofs.Rowed.{adds_row}
use Rattle.ips_strays.proofs.straying.gather_open.Goals.{then-is_open+in_ok-gather_below, else-is_open}
use Rattle.ips_strays.proofs.straying.gather_open.Goals as goal

pub loop-i-preserved : goal.loop-i-preserved
loop-i-preserved g c =
    let o = g.F.Source.outside in
    let start = c.args.folder.now in
    let u = (o.state start).held in
    let rows = c.args.rows.now in
    let paths = row_paths rows in
    let i = c.loop-i.i in
    let row = c.index-rows-i.result in
    let p = row.path.now.bytes in
    let old = c.args.strays.now.items in
    let mid = c.loop-i.strays.items in
    let inv = c.loop-i.invariant in
    let kept : (o.state c.loop-i.folder).held ≡ u = ap (λ (s : State). s.held) inv.reads.kept in
    let tells : (r : Request) → c.args.going.now ≡ map (goes_else (naming r) u) paths → IsMarkOf (λ q. takes (r.over.at q)) paths c.args.away.now → c.is_open.result ≡ opens r u p = λ r going away.
    let goes : get_or c.args.going.now i false ≡ goes_else (naming r) u p = at_row (goes_else (naming r) u) c.args.going.now rows i row false going c.loop-i-test.true c.index-rows-i.is in
    c.is_open.ensures r u (goes ∙ ap (goes_else (naming r) u) (sym c.bytes.ensures.value)) away ∙ ap (opens r u) c.bytes.ensures.value in
    elim c.if-is_open.branch [
      | then-is_open+in_ok-gather_below w ↦
          let new = w.gather_below.new.strays.items in
          let last = ap (λ v. v.items) w.strays-is in
          let more : IsTrue (o.tells start) → Adds u (hangs paths p) mid new = λ told. subst (λ (v : Image). Adds v (hangs paths p) mid new) kept (w.in_ok-gather_below.ensures.found (inv.reads.call.same_kind ∙ told)) in
          record {
            reads = subst (λ f. Reads o start f ⊥) (sym w.folder-is)
                (reads_then o start c.loop-i.folder w.gather_below.new.folder (HasFailed w.gather_below.result) ⊥ inv.reads w.gather_below.ensures.reads (λ f. subst (λ (r : _). HasFailed r) w.in_ok-gather_below.was f) (λ f. absurd f));
            so_far = λ told r going away. subst (λ (l : List Thing). Adds u (hangs_among (opens r u) paths (row_paths (take (i + 1) rows))) old l) (sym last)
                (adds_row u (λ x q. opens r u x && hangs paths x q) rows i row old mid new c.loop-i-test.true c.index-rows-i.is (inv.so_far told r going away)
                (adds_flagged u (opens r u p) (hangs paths p) mid new (sym (tells r going away) ∙ w.if-is_open.true) (more told)));
            things = λ told all. subst (λ (l : List Thing). AreThings u l) (sym last) ((more told).things (inv.things told all));
          }
      | else-is_open w ↦
          let last = ap (λ v. v.items) w.strays-is in
          record {
            reads = subst (λ f. Reads o start f ⊥) (sym w.folder-is) inv.reads;
            so_far = λ told r going away. subst (λ (l : List Thing). Adds u (hangs_among (opens r u) paths (row_paths (take (i + 1) rows))) old l) (sym last)
                (adds_row u (λ x q. opens r u x && hangs paths x q) rows i row old mid mid c.loop-i-test.true c.index-rows-i.is (inv.so_far told r going away)
                (adds_unflagged u (opens r u p) (hangs paths p) mid (sym (tells r going away) ∙ w.if-is_open.false)));
            things = λ told all. subst (λ (l : List Thing). AreThings u l) (sym last) (inv.things told all);
          }
    ]
