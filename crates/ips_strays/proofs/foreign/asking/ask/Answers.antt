use Rattle.std.proofs.Common.{◌≡◌, false, List, get_or, take_all, sym, ◌∙◌, ap, subst, arith}
use Rattle.ips_outside.specs.Image.{Image}
use Rattle.ips_outside.specs.State.{State}
use Rattle.ips_outside.proofs.Reading.{reads_then}
use Rattle.ips_change.specs.content.Failing.{HasFailed}
use Rattle.ips_after.specs.After.{change_after}
use Rattle.ips_after.specs.Change.{replaces}
use Rattle.ips_after.specs.Request.{takes}
use Rattle.ips_change.specs.Told.{naming}
use Rattle.ips_change.specs.declared.survey.row.Row.{Row}
use Rattle.ips_change.specs.survey.Rows.{IsRowOf}
use Rattle.ips_change.specs.survey.Marks.{IsMarkOf, row_paths}
use Rattle.ips_links.proofs.Linked.{all_here, at_row}
use Rattle.ips_found.specs.Found.{AreThings}
use Rattle.ips_strays.specs.Strays.{Adds}
use Rattle.ips_strays.proofs.Rowed.{adds_row}
use Rattle.ips_strays.specs.foreign.Foreign.{asks, asks_among}
use Rattle.ips_strays.proofs.foreign.asking.ask.Goals as goal

pub loop-i-preserved : goal.loop-i-preserved
loop-i-preserved g c =
    let o = g.F.Source.outside in
    let start = c.args.folder.now in
    let u = (o.state start).held in
    let rows = c.args.rows.now in
    let paths = row_paths rows in
    let i = c.loop-i.i in
    let row = c.index-rows-i.result in
    let p = row.path.now.bytes in
    let old = c.args.things.now.items in
    let mid = c.loop-i.things.items in
    let new = c.ask_at.new.things.items in
    let inv = c.loop-i.invariant in
    let kept : (o.state c.loop-i.folder).held ≡ u = ap (λ (s : State). s.held) inv.reads.kept in
    record {
      reads = reads_then o start c.loop-i.folder c.ask_at.new.folder (HasFailed c.ask_at.result) ⊥ inv.reads c.ask_at.ensures.reads (λ f. subst (λ (r : _). HasFailed r) c.in_ok-ask_at.was f) (λ f. absurd f);
      so_far = λ told r emptied all gone away.
          let marked = subst (λ (v : Image). IsMarkOf (λ q. replaces (change_after (naming r) v emptied q)) paths c.args.gone.now) (sym kept) gone in
          let taken : get_or c.args.away.now i false ≡ takes (r.over.at p) = at_row (λ q. takes (r.over.at q)) c.args.away.now rows i row false away c.loop-i-test.true c.index-rows-i.is in
          let more = subst (λ (v : Image). Adds v (asks r v emptied p) mid new) kept
          (c.in_ok-ask_at.ensures.found (inv.reads.call.same_kind ∙ told) r emptied (all_here (IsRowOf r) rows i row c.loop-i-test.true c.index-rows-i.is all) marked taken) in
          adds_row u (λ x q. asks r u emptied x q) rows i row old mid new c.loop-i-test.true c.index-rows-i.is (inv.so_far told r emptied all gone away) more;
      things = λ told all.
          subst (λ (v : Image). AreThings v new) kept (c.in_ok-ask_at.ensures.things (inv.reads.call.same_kind ∙ told) (subst (λ (v : Image). AreThings v mid) (sym kept) (inv.things told all)));
    }

pub returns-clause-found : goal.returns-clause-found
returns-clause-found g c = λ told r emptied all gone away.
    let u = (g.F.Source.outside.state c.args.folder.now).held in
    subst (λ (l : List Row). Adds u (asks_among r u emptied (row_paths l)) c.args.things.now.items c.loop-i.things.items) (take_all c.loop-i.i c.args.rows.now (omega (arith, c.loop-i-test.false)))
    (c.loop-i.invariant.so_far told r emptied all gone away)
