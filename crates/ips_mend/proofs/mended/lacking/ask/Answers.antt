use Rattle.std.proofs.Common.{◌<◌, false, List, get_or, length, map, take_all, ◌∙◌, ap, subst, arith}
use Rattle.ips_outside.specs.State.{State}
use Rattle.ips_outside.proofs.Reading.{reads_then}
use Rattle.ips_after.specs.Repaired.{mended}
use Rattle.ips_change.specs.content.Failing.{HasFailed}
use Rattle.ips_change.specs.Told.{change_told}
use Rattle.ips_change.specs.declared.survey.row.Row.{Row}
use Rattle.ips_change.specs.survey.Marks.{row_paths}
use Rattle.ips_links.proofs.Linked.{at_path, at_row, by_rows, one_more, row_more, told_here}
use Rattle.ips_mend.specs.mended.Mending.{lacks, links_among}
use Rattle.ips_mend.proofs.mended.Linking.{lacks_here}
use Rattle.ips_mend.proofs.mended.lacking.ask.Goals as goal

pub loop-i-preserved : goal.loop-i-preserved
loop-i-preserved g c =
    let rows = c.args.rows.now in
    let paths = row_paths rows in
    let i = c.loop-i.i in
    let row = c.index-rows-i.result in
    let p = row.path.now.bytes in
    let own = c.index-own-i.result in
    let t = (g.S.Source.outside.state c.args.source.now).held in
    let kept = ap (λ (s : State). s.held) c.loop-i.invariant.reads.kept in
    let lt : i < length rows = c.loop-i-test.true in
    let within : i < length c.args.own.now = omega (arith, lt, c.requires.own) in
    record {
      long = one_more c.loop-i.marks.items c.push.new.self.items c.in_ok-ask_at.field-0 i c.in_ok-push.ensures.items c.loop-i.invariant.long;
      reads = reads_then g.S.Source.outside c.args.source.now c.loop-i.source c.ask_at.new.source (HasFailed c.ask_at.result) _ c.loop-i.invariant.reads c.ask_at.ensures.reads (λ f. subst (λ (r : _). HasFailed r) c.in_ok-ask_at.was f) (λ f. absurd f);
      so_far = λ told f are by leads.
          let asked = c.in_ok-ask_at.ensures.found (c.loop-i.invariant.reads.call.same_kind ∙ told) f.bytes in
          let here = lacks_here f t (g.S.Source.outside.state c.loop-i.source).held paths p (change_told f.bytes own) (get_or c.args.led.now i false) c.in_ok-ask_at.field-0 kept are.paths asked
          (told_here (change_told f.bytes) (mended f t) c.args.own.now rows i own row by within c.index-own-i.is lt c.index-rows-i.is)
          (at_row (links_among f t paths) c.args.led.now rows i row false leads lt c.index-rows-i.is) in
          c.in_ok-push.ensures.items ∙ row_more (lacks f t) rows i row c.loop-i.marks.items c.in_ok-ask_at.field-0 lt c.index-rows-i.is (c.loop-i.invariant.so_far told f are by leads) here;
    }

pub returns-clause-found : goal.returns-clause-found
returns-clause-found g c = λ told f are by leads.
    let rows = c.args.rows.now in
    let t = (g.S.Source.outside.state c.args.source.now).held in
    c.loop-i.invariant.so_far told f are by leads
    ∙ ap (λ (l : List Row). map (at_path (lacks f t)) l) (take_all c.loop-i.i rows (omega (arith, c.loop-i-test.false)))
    ∙ by_rows (lacks f t) rows
