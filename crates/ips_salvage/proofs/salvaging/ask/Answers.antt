use Rattle.std.proofs.Common.{◌<◌, Bool, false, not, ◌&&◌, List, get_or, length, map, take_all, is_some, sym, ◌∙◌, ap, subst, arith}
use Rattle.ips_outside.specs.Image.{Image}
use Rattle.ips_outside.specs.State.{State}
use Rattle.ips_outside.proofs.Reading.{reads_then}
use Rattle.ips_after.specs.After as after
use Rattle.ips_after.specs.Request.{takes}
use Rattle.ips_after.specs.Salvage as salvage
use Rattle.ips_change.specs.content.Failing.{HasFailed}
use Rattle.ips_change.specs.Told.{naming}
use Rattle.ips_change.specs.declared.survey.row.Row.{Row}
use Rattle.ips_change.specs.survey.Rows.{HasLooked, IsRowOf}
use Rattle.ips_change.specs.survey.Marks.{IsMarkOf, row_paths}
use Rattle.ips_links.proofs.Linked.{all_here, at_path, at_row, by_rows, one_more, row_more}
use Rattle.ips_salvage.specs.Destroying.{goes_else}
use Rattle.ips_salvage.proofs.Salvageable.{salvaged_here}
use Rattle.ips_salvage.proofs.salvaging.ask.Goals as goal

pub loop-i-preserved : goal.loop-i-preserved
loop-i-preserved g c =
    let rows = c.args.table.now.rows.items in
    let i = c.loop-i.i in
    let row = c.index.result.now in
    let p = row.path.now.bytes in
    let goes = get_or c.args.going.now i false in
    let t = (g.F.Source.outside.state c.args.folder.now).held in
    let kept = ap (λ (s : State). s.held) c.loop-i.invariant.reads.kept in
    let lt : i < length rows = omega (arith, c.loop-i-test.true, c.len-i-end.ensures, c.args.table.now.rows.ok.0) in
    record {
      long = one_more c.loop-i.salvaged.items c.push.new.self.items c.in_ok-ask_at.field-0 i c.in_ok-push.ensures.items c.loop-i.invariant.long;
      room = c.ask_at.ensures.kept ∙ c.loop-i.invariant.room;
      reads = reads_then g.F.Source.outside c.args.folder.now c.loop-i.folder c.ask_at.new.folder (HasFailed c.ask_at.result) _ c.loop-i.invariant.reads c.ask_at.ensures.reads (λ f. subst (λ (r : _). HasFailed r) c.in_ok-ask_at.was f) (λ f. absurd f);
      so_far = λ told r table looked away leads.
          let marked = subst (λ (l : List Row). IsMarkOf (λ q. takes (r.over.at q)) (row_paths l) c.args.away.now) (sym c.deref.ensures.value) away in
          let asked = c.in_ok-ask_at.ensures.found (c.loop-i.invariant.reads.call.same_kind ∙ told) (subst (λ (u : Image). HasLooked u row) (sym kept) (all_here (HasLooked t) rows i row lt c.index.ensures looked)) r (all_here (IsRowOf r) rows i row lt c.index.ensures table.entries) marked in
          let same = ap (λ (u : Image). is_some (u.look p) && (not (after.given_up (naming r) u p) && goes)) kept in
          let goes_is = at_row (goes_else (naming r) t) c.args.going.now rows i row false leads lt c.index.ensures in
          c.in_ok-push.ensures.items ∙ row_more (salvage.salvaged (naming r) t) rows i row c.loop-i.salvaged.items c.in_ok-ask_at.field-0 lt c.index.ensures (c.loop-i.invariant.so_far told r table looked away leads)
          (asked ∙ same ∙ ap (λ (b : Bool). is_some (t.look p) && (not (after.given_up (naming r) t p) && b)) goes_is ∙ salvaged_here r t p (g.met.F.Source.sane.formed c.args.folder.now told));
    }

pub returns-clause-found : goal.returns-clause-found
returns-clause-found g c = λ told r table looked away leads.
    let rows = c.args.table.now.rows.items in
    let t = (g.F.Source.outside.state c.args.folder.now).held in
    c.loop-i.invariant.so_far told r table looked away leads
    ∙ ap (λ (l : List Row). map (at_path (salvage.salvaged (naming r) t)) l) (take_all c.loop-i.i rows (omega (arith, c.loop-i-test.false, c.len-i-end.ensures, c.args.table.now.rows.ok.0)))
    ∙ by_rows (salvage.salvaged (naming r) t) rows
