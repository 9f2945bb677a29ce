use Rattle.std.proofs.Common.{◌≡◌, ◌∷◌, [], List, take_all, sym, ◌∙◌, ap, subst, arith}
use Rattle.ips_outside.specs.Image.{Image}
use Rattle.ips_outside.specs.State.{State}
use Rattle.ips_outside.proofs.Reading.{reads_none, reads_then}
use Rattle.ips_change.specs.content.Failing.{HasFailed}
use Rattle.ips_change.specs.Told.{naming}
use Rattle.ips_change.specs.declared.survey.row.Row.{Row}
use Rattle.ips_change.specs.survey.Rows.{HasLooked, IsRowOf}
use Rattle.ips_change.specs.survey.Marks.{row_paths}
use Rattle.ips_links.proofs.Linked.{all_here}
use Rattle.ips_aside.specs.sides.Sides.{AddsSides}
use Rattle.ips_aside.proofs.sides.Added.{nothing_added, one_more_row}
use Rattle.ips_aside.proofs.sides.siding.add_all.Goals as goal

pub loop-i-init : goal.loop-i-init
loop-i-init g c = record {
  reads = reads_none g.S.Source.outside c.args.source.now ⊥ (λ f. f);
  so_far = λ told r said proper table looked. nothing_added (naming r) (g.S.Source.outside.state c.args.source.now).held c.args.sides.now.items;
}

pub loop-i-preserved : goal.loop-i-preserved
loop-i-preserved g c =
    let o = g.S.Source.outside in
    let start = c.args.source.now in
    let t = (o.state start).held in
    let rows = c.args.rows.now in
    let i = c.loop-i.i in
    let row = c.index-rows-i.result in
    let inv = c.loop-i.invariant in
    let kept : (o.state c.loop-i.source).held ≡ t = ap (λ (s : State). s.held) inv.reads.kept in
    record {
      reads = reads_then o start c.loop-i.source c.add.new.source (HasFailed c.add.result) ⊥ inv.reads c.add.ensures.reads (λ f. subst (λ (r : _). HasFailed r) c.in_ok-add.was f) (λ f. absurd f);
      so_far = λ told r said proper table looked.
          one_more_row (naming r) t rows i row c.args.sides.now.items c.loop-i.sides.items c.add.new.sides.items c.loop-i-test.true c.index-rows-i.is (inv.so_far told r said proper table looked)
          (subst (λ (u : Image). AddsSides (naming r) u (row.path.now.bytes ∷ []) c.loop-i.sides.items c.add.new.sides.items) kept
          (c.in_ok-add.ensures.found (inv.reads.call.same_kind ∙ told) r said proper table (all_here (IsRowOf r) rows i row c.loop-i-test.true c.index-rows-i.is table.entries)
          (subst (λ (u : Image). HasLooked u row) (sym kept) (all_here (HasLooked t) rows i row c.loop-i-test.true c.index-rows-i.is looked))));
    }

pub returns-clause-found : goal.returns-clause-found
returns-clause-found g c = λ told r said proper table looked.
    subst (λ (l : List Row). AddsSides (naming r) (g.S.Source.outside.state c.args.source.now).held (row_paths l) c.args.sides.now.items c.loop-i.sides.items)
    (take_all c.loop-i.i c.args.rows.now (omega (arith, c.loop-i-test.false)))
    (c.loop-i.invariant.so_far told r said proper table looked)
