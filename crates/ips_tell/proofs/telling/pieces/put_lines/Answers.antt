use Rattle.std.proofs.Common.{◌≡◌, ℕ, List, ◌∷◌, ◌++◌, length, take, take_all, slice_get, Some, refl, sym, subst, arith}
use Rattle.std.proofs.lemmas.Option.{slice_get_read}
use Rattle.ips_report.specs.Report.{line, prefixed_lines}
use Rattle.ips_tell.specs.telling.Finishing.{Adds}
use Rattle.ips_tell.proofs.telling.Adding.{adds_then, adds_nothing}
use Rattle.ips_tell.proofs.telling.Items.{item_more}
use Rattle.ips_tell.proofs.telling.pieces.put_lines.Goals as goal

pub loop-text-init : goal.loop-text-init
loop-text-init g c = adds_nothing g.O.Sink.taking c.args.out.now c.args.told

pub loop-text-preserved : goal.loop-text-preserved
loop-text-preserved g c =
    let texts = c.args.texts.now in
    let front = c.args.front.now in
    let i = c.loop-text.text-index in
    let here = slice_get_read texts (length texts) i c.text-item.result refl c.loop-text-test.true c.text-item.is in
    subst (λ (l : List ℕ). Adds g.O.Sink.taking l c.args.out.now c.args.told c.put_line-all.new.out c.put_line-all.result) (sym (item_more (λ (t : List ℕ). line (front ++ t)) texts i _ here))
    (adds_then g.O.Sink.taking (prefixed_lines front (take i texts)) _ c.args.out.now c.loop-text.out c.put_line-all.new.out c.args.told c.loop-text.all c.put_line-all.result c.loop-text.invariant c.put_line-all.ensures)

pub returns : goal.returns
returns g c = subst (λ (l : List (List ℕ)). Adds g.O.Sink.taking (prefixed_lines c.args.front.now l) c.args.out.now c.args.told c.loop-text.out c.loop-text.all)
    (take_all c.loop-text.text-index c.args.texts.now c.loop-text-test.false) c.loop-text.invariant
