use Rattle.std.proofs.Common.{sym, subst, List, All}
use Rattle.std.proofs.lemmas.Option.{slice_get_within}
use Rattle.ips_refute.specs.declared.nogoods.Nogood.{Nogood}
use Rattle.ips_refute.specs.declared.nogoods.Reason.TheVariants.{Earlier}
use Rattle.ips_refute.specs.Meaning.{Ascends}
use Rattle.ips_search.proofs.Walks.{judged_core}
use Rattle.ips_search.proofs.Shrinking.{kept_is_core}
use Rattle.ips_search.proofs.steps.judge.Goals as goal

pub kept_core-requires : goal.kept_core-requires
kept_core-requires g c = slice_get_within c.as_slice-nogoods.result.now c.in-Some.number c.in-Some.ensures.0 c.in-Some.ensures.1

pub returns-in-Some : goal.returns-in-Some
returns-in-Some g c =
    let m = g.P.Puzzle.meaning c.args.puzzle.now in
    let s = c.args.state.now in
    let sorted : All (λ (x : Nogood). Ascends x.set.items) c.as_slice-nogoods.result.now =
    subst (λ (l : List Nogood). All (λ (x : Nogood). Ascends x.set.items) l) (sym c.as_slice-nogoods.ensures.value) c.requires.searching.sorted in
    judged_core m s c.args.more c.as_slice-nogoods.result.now c.as_slice-chosen.result.now (Earlier c.in-Some.number) c.in_ok-core.core.items c.as_slice-nogoods.ensures.value c.as_slice-chosen.ensures.value c.requires.next
    (kept_is_core m c.as_slice-nogoods.result.now c.as_slice-chosen.result.now c.args.more c.in-Some.number c.in_ok-core.core.items sorted c.in-Some.ensures c.in_ok-core.ensures)
