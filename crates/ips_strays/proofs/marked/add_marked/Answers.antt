use Rattle.std.proofs.Common.{◌≡◌, ◌+◌, Bool, false, ◌&&◌, IsTrue, List, ℕ, get_or, map, take, sym, ◌∙◌, ap, subst}
use Rattle.std.specs.List.{list_any}
use Rattle.ips_text.specs.Ancestry.{same_path}
use Rattle.ips_outside.specs.Image.{Image}
use Rattle.ips_outside.specs.Outside.{Reads}
use Rattle.ips_outside.specs.State.{State}
use Rattle.ips_outside.proofs.Reading.{reads_then}
use Rattle.ips_change.specs.content.Failing.{HasFailed}
use Rattle.ips_change.specs.survey.Marks.{row_paths}
use Rattle.ips_links.proofs.Linked.{at_row}
use Rattle.ips_found.specs.Found.{AreThings}
use Rattle.ips_found.specs.declared.found.Thing.{Thing}
use Rattle.ips_strays.specs.Strays.{Adds}
use Rattle.ips_strays.proofs.Gathered.{adds_flagged, adds_unflagged}
use Rattle.ips_strays.proofs.Rowed.{adds_row}
use Rattle.ips_strays.proofs.marked.add_marked.Goals.{then-marks-i+in_ok-add_row, else-marks-i}
use Rattle.ips_strays.proofs.marked.add_marked.Goals as goal

pub loop-i-preserved : goal.loop-i-preserved
loop-i-preserved g c =
    let o = g.F.Source.outside in
    let start = c.args.folder.now in
    let u = (o.state start).held in
    let rows = c.args.rows.now in
    let paths = row_paths rows in
    let marks = c.args.marks.now in
    let i = c.loop-i.i in
    let row = c.index-rows-i.result in
    let p = row.path.now.bytes in
    let old = c.args.things.now.items in
    let mid = c.loop-i.things.items in
    let inv = c.loop-i.invariant in
    let kept : (o.state c.loop-i.folder).held ≡ u = ap (λ (s : State). s.held) inv.reads.kept in
    let flag : (test : List ℕ → Bool) → marks ≡ map test paths → get_or marks i false ≡ test p = λ test told. at_row test marks rows i row false told c.loop-i-test.true c.index-rows-i.is in
    elim c.if-marks-i.branch [
      | then-marks-i+in_ok-add_row w ↦
          let new = w.add_row.new.things.items in
          let last = ap (λ v. v.items) w.things-is in
          let more : IsTrue (o.tells start) → Adds u (same_path p) mid new = λ told. subst (λ (v : Image). Adds v (same_path p) mid new) kept (w.in_ok-add_row.ensures.found (inv.reads.call.same_kind ∙ told)) in
          record {
            reads = subst (λ f. Reads o start f ⊥) (sym w.folder-is)
                (reads_then o start c.loop-i.folder w.add_row.new.folder (HasFailed w.add_row.result) ⊥ inv.reads w.add_row.ensures.reads (λ f. subst (λ (r : _). HasFailed r) w.in_ok-add_row.was f) (λ f. absurd f));
            so_far = λ told test marked. subst (λ (l : List Thing). Adds u (λ q. list_any (λ x. test x && same_path x q) (row_paths (take (i + 1) rows))) old l) (sym last)
                (adds_row u (λ x q. test x && same_path x q) rows i row old mid new c.loop-i-test.true c.index-rows-i.is (inv.so_far told test marked)
                (adds_flagged u (test p) (same_path p) mid new (sym (flag test marked) ∙ w.if-marks-i.true) (more told)));
            things = λ told all. subst (λ (l : List Thing). AreThings u l) (sym last) ((more told).things (inv.things told all));
          }
      | else-marks-i w ↦
          let last = ap (λ v. v.items) w.things-is in
          record {
            reads = subst (λ f. Reads o start f ⊥) (sym w.folder-is) inv.reads;
            so_far = λ told test marked. subst (λ (l : List Thing). Adds u (λ q. list_any (λ x. test x && same_path x q) (row_paths (take (i + 1) rows))) old l) (sym last)
                (adds_row u (λ x q. test x && same_path x q) rows i row old mid mid c.loop-i-test.true c.index-rows-i.is (inv.so_far told test marked)
                (adds_unflagged u (test p) (same_path p) mid (sym (flag test marked) ∙ w.if-marks-i.false)));
            things = λ told all. subst (λ (l : List Thing). AreThings u l) (sym last) (inv.things told all);
          }
    ]
