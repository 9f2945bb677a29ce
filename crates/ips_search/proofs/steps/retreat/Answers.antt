use Rattle.std.proofs.Common.{◌≡◌, ap, sym, ◌∙◌, subst, arith, List, length, take, ◌-◌}
use Rattle.std.proofs.lemmas.List.{nil_from_length}
use Rattle.ips_refute.specs.declared.nogoods.Pair.{Pair}
use Rattle.ips_refute.specs.declared.nogoods.Reason.TheVariants.{Earlier}
use Rattle.ips_search.specs.Searching.{IsCore, next_pair}
use Rattle.ips_search.proofs.Walks.{EndsAt, ends_of, back_offered, back_core, retreated, ended_all, restored}
use Rattle.ips_search.proofs.steps.retreat.Goals as goal

pub returns-then-count-eq0 : goal.returns-then-count-eq0
returns-then-count-eq0 g c =
    let s = c.args.state.now in
    ended_all (g.P.Puzzle.meaning c.args.puzzle.now) s c.finish.new.state c.requires.searching c.requires.room c.requires.tried (nil_from_length s.top.set.items (omega (arith, c.if-count-eq0.true, c.len-count.ensures, s.top.set.ok.0))) c.in_ok-finish.ensures

pub restore-requires-clause-stem : goal.restore-requires-clause-stem
restore-requires-clause-stem g c =
    let m = g.P.Puzzle.meaning c.args.puzzle.now in
    let s = c.args.state.now in
    let at : EndsAt s c.in_ok-rest.rest.items c.index.result.now = ends_of m s c.len-count.result c.in_ok-rest.rest.items c.index.result.now c.requires.searching (omega (arith, c.len-count.ensures, s.top.set.ok.0)) c.if-count-eq0.false c.index.ensures (c.in_ok-rest.ensures.items ∙ ap (take (c.len-count.result - 1)) c.deref.ensures.value) in
    omega (arith, at.in_choice, c.requires.searching.as_deep)

pub reject-requires-clause-searching : goal.reject-requires-clause-searching
reject-requires-clause-searching g c =
    let m = g.P.Puzzle.meaning c.args.puzzle.now in
    let s = c.args.state.now in
    let y = c.index.result.now in
    let at : EndsAt s c.in_ok-rest.rest.items y = ends_of m s c.len-count.result c.in_ok-rest.rest.items y c.requires.searching (omega (arith, c.len-count.ensures, s.top.set.ok.0)) c.if-count-eq0.false c.index.ensures (c.in_ok-rest.ensures.items ∙ ap (take (c.len-count.result - 1)) c.deref.ensures.value) in
    restored m (g.met.P.Puzzle.lawful c.args.puzzle.now) s c.restore.new.state y.stem c.requires.searching c.requires.room c.requires.tried at.in_choice c.in_ok-restore.ensures

pub reject-requires-clause-offered : goal.reject-requires-clause-offered
reject-requires-clause-offered g c =
    let m = g.P.Puzzle.meaning c.args.puzzle.now in
    let s = c.args.state.now in
    let y = c.index.result.now in
    let at : EndsAt s c.in_ok-rest.rest.items y = ends_of m s c.len-count.result c.in_ok-rest.rest.items y c.requires.searching (omega (arith, c.len-count.ensures, s.top.set.ok.0)) c.if-count-eq0.false c.index.ensures (c.in_ok-rest.ensures.items ∙ ap (take (c.len-count.result - 1)) c.deref.ensures.value) in
    back_offered m s c.restore.new.state c.in_ok-rest.rest.items y c.requires.searching at c.in_ok-restore.ensures

pub reject-requires-clause-core : goal.reject-requires-clause-core
reject-requires-clause-core g c =
    let m = g.P.Puzzle.meaning c.args.puzzle.now in
    let s = c.args.state.now in
    let t = c.restore.new.state in
    let y = c.index.result.now in
    let rest = c.in_ok-rest.rest.items in
    let at : EndsAt s rest y = ends_of m s c.len-count.result rest y c.requires.searching (omega (arith, c.len-count.ensures, s.top.set.ok.0)) c.if-count-eq0.false c.index.ensures (c.in_ok-rest.ensures.items ∙ ap (take (c.len-count.result - 1)) c.deref.ensures.value) in
    let core = back_core m s t rest y c.requires.searching at c.in_ok-restore.ensures in
    let number : length s.nogoods.items ≡ c.len-number.result = omega (arith, c.len-number.ensures, s.nogoods.ok.0) in
    subst (λ (k : List Pair). IsCore m t.nogoods.items t.pairs.items (next_pair t) (Earlier c.len-number.result) k) (sym c.deref-2.ensures.value)
    (subst (λ k. IsCore m t.nogoods.items t.pairs.items (next_pair t) (Earlier k) rest) number core)

pub returns : goal.returns
returns g c =
    let m = g.P.Puzzle.meaning c.args.puzzle.now in
    let s = c.args.state.now in
    let y = c.index.result.now in
    let rest = c.in_ok-rest.rest.items in
    let at : EndsAt s rest y = ends_of m s c.len-count.result rest y c.requires.searching (omega (arith, c.len-count.ensures, s.top.set.ok.0)) c.if-count-eq0.false c.index.ensures (c.in_ok-rest.ensures.items ∙ ap (take (c.len-count.result - 1)) c.deref.ensures.value) in
    retreated m (g.met.P.Puzzle.lawful c.args.puzzle.now) s c.restore.new.state c.reject.new.state rest y c.requires.searching c.requires.room c.requires.tried at c.in_ok-restore.ensures c.in_ok-reject.ensures
