use Rattle.std.proofs.Common.{sym, ◌-◌, arith, List, length, get_or, subst, refl}
use Rattle.std.proofs.lemmas.List.{get_or_default}
use Rattle.ips_refute.specs.declared.nogoods.Pair.{Pair}
use Rattle.ips_search.specs.Searching.{IsKept}
use Rattle.ips_search.proofs.Shrinking.{all_kept, keep_one, core_kept}
use Rattle.ips_search.proofs.cores.core.Goals as goal

pub loop-front-init : goal.loop-front-init
loop-front-init g c =
    let m = g.P.Puzzle.meaning c.args.puzzle.now in
    let whole = c.args.whole.now in
    subst (λ (s : List Pair). IsKept m whole c.args.more c.args.test (length whole) s) (sym c.new-kept.ensures.items) (all_kept m whole c.args.more c.args.test (length whole) refl c.requires.broken)

pub loop-front-preserved : goal.loop-front-preserved
loop-front-preserved g c =
    let m = g.P.Puzzle.meaning c.args.puzzle.now in
    let whole = c.args.whole.now in
    let needed = c.in_ok-needed.needed in
    let n = needed - 1 in
    let d : Pair = record { stem = 0; candidate = 0 } in
    let h : IsKept m whole c.args.more c.args.test needed c.loop-front.kept.items =
    subst (λ (s : List Pair). IsKept m whole c.args.more c.args.test needed s) c.deref.ensures.value c.in_ok-needed.ensures.1 in
    subst (λ (s : List Pair). IsKept m whole c.args.more c.args.test n s) (sym c.in_ok-insert.ensures.items)
    (keep_one m whole c.args.more c.args.test needed n c.loop-front.kept.items (get_or whole n d) (omega (arith, c.if-needed-eq0.false)) (get_or_default whole n d _ (omega (arith, h.bounded, c.if-needed-eq0.false))) c.requires.ascends h)

pub returns-then-needed-eq0 : goal.returns-then-needed-eq0
returns-then-needed-eq0 g c ns =
    let m = g.P.Puzzle.meaning c.args.puzzle.now in
    let whole = c.args.whole.now in
    let h : IsKept m whole c.args.more c.args.test c.in_ok-needed.needed c.loop-front.kept.items =
    subst (λ (s : List Pair). IsKept m whole c.args.more c.args.test c.in_ok-needed.needed s) c.deref.ensures.value c.in_ok-needed.ensures.1 in
    core_kept m ns whole c.args.more c.args.test c.in_ok-needed.needed c.loop-front.kept.items c.requires.known c.if-needed-eq0.true h

pub returns : goal.returns
returns g c ns = core_kept (g.P.Puzzle.meaning c.args.puzzle.now) ns c.args.whole.now c.args.more c.args.test c.loop-front.front c.loop-front.kept.items c.requires.known (omega arith) c.loop-front.invariant
