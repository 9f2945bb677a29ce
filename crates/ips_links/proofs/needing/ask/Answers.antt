use Rattle.std.proofs.Common.{◌<◌, false, List, get_or, length, map, take_all, sym, ◌∙◌, ap, subst, arith}
use Rattle.ips_outside.specs.Image.{Image}
use Rattle.ips_outside.specs.State.{State}
use Rattle.ips_outside.proofs.Reading.{reads_then}
use Rattle.ips_change.specs.content.Failing.{HasFailed}
use Rattle.ips_change.specs.declared.survey.row.Row.{Row}
use Rattle.ips_change.specs.survey.Rows.{HasLooked}
use Rattle.ips_change.specs.survey.Marks.{row_paths}
use Rattle.ips_change.proofs.survey.Filling.{said_at}
use Rattle.ips_links.specs.Leading.{is_led}
use Rattle.ips_links.proofs.Linked.{all_here, at_path, at_row, by_rows, needs_at, needs_here, one_more, row_more}
use Rattle.ips_links.proofs.needing.ask.Goals as goal

pub loop-i-preserved : goal.loop-i-preserved
loop-i-preserved g c =
    let rows = c.args.table.now.rows.items in
    let paths = row_paths rows in
    let i = c.loop-i.i in
    let row = c.index.result.now in
    let said = c.index-in-loop-i.result.now in
    let t = (g.S.Source.outside.state c.args.source.now).held in
    let kept = ap (λ (s : State). s.held) c.loop-i.invariant.reads.kept in
    let lt : i < length rows = omega (arith, c.loop-i-test.true, c.len-i-end.ensures, c.args.table.now.rows.ok.0) in
    record {
      long = one_more c.loop-i.needs.items c.push.new.self.items c.in_ok-ask_at.field-0 i c.in_ok-push.ensures.items c.loop-i.invariant.long;
      reads = reads_then g.S.Source.outside c.args.source.now c.loop-i.source c.ask_at.new.source (HasFailed c.ask_at.result) _ c.loop-i.invariant.reads c.ask_at.ensures.reads (λ f. subst (λ (r : _). HasFailed r) c.in_ok-ask_at.was f) (λ f. absurd f);
      so_far = λ told r table looked leads.
          let asked = c.in_ok-ask_at.ensures.found (c.loop-i.invariant.reads.call.same_kind ∙ told) (subst (λ (u : Image). HasLooked u row) (sym kept) (all_here (HasLooked t) rows i row lt c.index.ensures looked)) in
          let here = needs_here r t (g.S.Source.outside.state c.loop-i.source).held paths row.path.now.bytes said (get_or c.args.led.now i false) c.in_ok-ask_at.field-0 kept asked
          (c.index-in-loop-i.ensures ∙ at_row (said_at r.over) c.args.table.now.said.items rows i row said table.said lt c.index.ensures)
          (at_row (is_led r t paths) c.args.led.now rows i row false leads lt c.index.ensures) in
          c.in_ok-push.ensures.items ∙ row_more (needs_at r t paths) rows i row c.loop-i.needs.items c.in_ok-ask_at.field-0 lt c.index.ensures (c.loop-i.invariant.so_far told r table looked leads) here;
    }

pub returns-clause-found : goal.returns-clause-found
returns-clause-found g c = λ told r table looked leads.
    let rows = c.args.table.now.rows.items in
    let t = (g.S.Source.outside.state c.args.source.now).held in
    c.loop-i.invariant.so_far told r table looked leads
    ∙ ap (λ (l : List Row). map (at_path (needs_at r t (row_paths rows))) l) (take_all c.loop-i.i rows (omega (arith, c.loop-i-test.false, c.len-i-end.ensures, c.args.table.now.rows.ok.0)))
    ∙ by_rows (needs_at r t (row_paths rows)) rows
