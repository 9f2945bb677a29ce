use Rattle.std.proofs.Common.{◌≡◌, true, ◌∙◌, sym, subst, List}
use Rattle.ips_refute.specs.declared.nogoods.Pair.{Pair}
use Rattle.ips_refute.specs.declared.nogoods.Nogood.{Nogood}
use Rattle.ips_refute.specs.Meaning.{Ascends}
use Rattle.ips_refute.specs.Refuting.{IsNogood}
use Rattle.ips_refute.specs.Reading.{ascends}
use Rattle.ips_refute.proofs.Lines.{ascends_up}
use Rattle.ips_search.proofs.Advised.{learned_one}
use Rattle.ips_search.proofs.advice.learn.Goals as goal

pub returns : goal.returns
returns g c =
    let m = g.P.Puzzle.meaning c.args.puzzle.now in
    let s = c.args.state.now in
    let up : Ascends c.args.line.set.items = ascends_up c.args.line.set.items (subst (λ (l : List Pair). ascends l ≡ true) c.deref.ensures.value (sym c.ascend.ensures ∙ c.if-not-ascend.false)) in
    let ok : IsNogood m s.nogoods.items c.args.line = subst (λ (l : List Nogood). IsNogood m l c.args.line) c.deref-2.ensures.value (c.is_nogood.ensures.0 c.if-not-is_nogood.false) in
    learned_one m s c.push.new.self c.args.line c.requires.searching c.in_ok-push.ensures.items up ok
