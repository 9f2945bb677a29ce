use Rattle.std.proofs.Common.{◌<◌, false, not, ◌&&◌, ◌||◌, List, get_or, length, map, take_all, is_none, sym, ◌∙◌, ap, subst, arith}
use Rattle.ips_outside.specs.Image.{Image, is_dir}
use Rattle.ips_outside.specs.State.{State}
use Rattle.ips_outside.proofs.Reading.{reads_then}
use Rattle.ips_after.specs.After as after
use Rattle.ips_change.specs.content.Failing.{HasFailed}
use Rattle.ips_change.specs.Told.{naming}
use Rattle.ips_change.specs.declared.survey.row.Row.{Row}
use Rattle.ips_change.specs.survey.Rows.{HasLooked}
use Rattle.ips_change.proofs.survey.Filling.{said_at}
use Rattle.ips_links.proofs.Linked.{all_here, at_path, at_row, by_rows, one_more, row_more}
use Rattle.ips_links.proofs.Directories.{support_here}
use Rattle.ips_links.proofs.supporting.ask.Goals as goal

pub loop-i-preserved : goal.loop-i-preserved
loop-i-preserved g c =
    let rows = c.args.table.now.rows.items in
    let i = c.loop-i.i in
    let row = c.index.result.now in
    let p = row.path.now.bytes in
    let said = c.index-in-loop-i.result.now in
    let below = get_or c.args.below.now i false in
    let taken = get_or c.args.taken.now i false in
    let t = (g.S.Source.outside.state c.args.source.now).held in
    let kept = ap (λ (s : State). s.held) c.loop-i.invariant.reads.kept in
    let lt : i < length rows = omega (arith, c.loop-i-test.true, c.len-i-end.ensures, c.args.table.now.rows.ok.0) in
    record {
      long = one_more c.loop-i.supports.items c.push.new.self.items c.in_ok-ask_at.field-0 i c.in_ok-push.ensures.items c.loop-i.invariant.long;
      reads = reads_then g.S.Source.outside c.args.source.now c.loop-i.source c.ask_at.new.source (HasFailed c.ask_at.result) _ c.loop-i.invariant.reads c.ask_at.ensures.reads (λ f. subst (λ (r : _). HasFailed r) c.in_ok-ask_at.was f) (λ f. absurd f);
      so_far = λ told r table looked made goes.
          let asked = c.in_ok-ask_at.ensures.found (c.loop-i.invariant.reads.call.same_kind ∙ told) (subst (λ (u : Image). HasLooked u row) (sym kept) (all_here (HasLooked t) rows i row lt c.index.ensures looked)) in
          let here = support_here r t p said below taken
          (c.index-in-loop-i.ensures ∙ at_row (said_at r.over) c.args.table.now.said.items rows i row said table.said lt c.index.ensures)
          (at_row (after.holds_made (naming r) t) c.args.below.now rows i row false made lt c.index.ensures)
          (at_row (after.is_taken (naming r) t) c.args.taken.now rows i row false goes lt c.index.ensures) in
          c.in_ok-push.ensures.items ∙ row_more (after.is_support (naming r) t) rows i row c.loop-i.supports.items c.in_ok-ask_at.field-0 lt c.index.ensures (c.loop-i.invariant.so_far told r table looked made goes)
          (asked ∙ ap (λ (x : Image). is_none said && ((not (is_dir (x.look p)) || taken) && below)) kept ∙ here);
    }

pub returns-clause-found : goal.returns-clause-found
returns-clause-found g c = λ told r table looked made goes.
    let rows = c.args.table.now.rows.items in
    let t = (g.S.Source.outside.state c.args.source.now).held in
    c.loop-i.invariant.so_far told r table looked made goes
    ∙ ap (λ (l : List Row). map (at_path (after.is_support (naming r) t)) l) (take_all c.loop-i.i rows (omega (arith, c.loop-i-test.false, c.len-i-end.ensures, c.args.table.now.rows.ok.0)))
    ∙ by_rows (after.is_support (naming r) t) rows
