use Rattle.std.proofs.Common.{◌≡◌, ℕ, List, ◌∷◌, ◌++◌, length, take, take_all, slice_get, Some, refl, sym, subst, arith}
use Rattle.std.proofs.lemmas.Option.{slice_get_read}
use Rattle.ips_report.specs.Report.{behind_blanks}
use Rattle.ips_tell.specs.telling.Finishing.{Adds}
use Rattle.ips_tell.proofs.telling.Adding.{adds_then, adds_nothing}
use Rattle.ips_tell.proofs.telling.Items.{item_more}
use Rattle.ips_tell.proofs.telling.pieces.put_words.Goals as goal

pub loop-word-init : goal.loop-word-init
loop-word-init g c = adds_nothing g.O.Sink.taking c.args.out.now c.args.told

pub loop-word-preserved : goal.loop-word-preserved
loop-word-preserved g c =
    let words = c.args.words.now in
    let i = c.loop-word.word-index in
    let here = slice_get_read words (length words) i c.word-item.result refl c.loop-word-test.true c.word-item.is in
    subst (λ (l : List ℕ). Adds g.O.Sink.taking l c.args.out.now c.args.told c.put_word-all.new.out c.put_word-all.result) (sym (item_more (λ (w : List ℕ). 32 ∷ w) words i _ here))
    (adds_then g.O.Sink.taking (behind_blanks (take i words)) _ c.args.out.now c.loop-word.out c.put_word-all.new.out c.args.told c.loop-word.all c.put_word-all.result c.loop-word.invariant c.put_word-all.ensures)

pub returns : goal.returns
returns g c = subst (λ (l : List (List ℕ)). Adds g.O.Sink.taking (behind_blanks l) c.args.out.now c.args.told c.loop-word.out c.loop-word.all)
    (take_all c.loop-word.word-index c.args.words.now c.loop-word-test.false) c.loop-word.invariant
