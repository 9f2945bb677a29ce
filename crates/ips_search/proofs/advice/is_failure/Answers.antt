use Rattle.std.proofs.Common.{refl, ap, ◌∙◌, sym}
use Rattle.ips_refute.specs.declared.nogoods.Pair.{Pair}
use Rattle.ips_refute.specs.Meaning.{Ascends, IsSubset}
use Rattle.ips_refute.proofs.Lines.{ascends_up}
use Rattle.ips_search.specs.Searching.{next_pair}
use Rattle.ips_search.proofs.Walks.{judged_core, core_of}
use Rattle.ips_search.proofs.Advised.{core_offered, core_one}
use Rattle.ips_search.proofs.advice.is_failure.Goals as goal

pub explains-requires-clause-offered : goal.explains-requires-clause-offered
explains-requires-clause-offered g c =
    let s = c.args.state.now in
    core_offered (g.P.Puzzle.meaning c.args.puzzle.now) s.choice.items c.args.more c.as_slice-chosen.result.now c.as_slice-core.result.now c.requires.searching.begun (c.as_slice-chosen.ensures.value ∙ c.requires.searching.paired) c.requires.room c.requires.offered (c.are_chosen.ensures c.if-not-are_chosen.false)

pub explains-requires-clause-one_per_stem : goal.explains-requires-clause-one_per_stem
explains-requires-clause-one_per_stem g c =
    let s = c.args.state.now in
    core_one s.choice.items c.args.more c.as_slice-chosen.result.now c.as_slice-core.result.now (c.as_slice-chosen.ensures.value ∙ c.requires.searching.paired) (ap (λ (q : Pair). q.stem) c.requires.next) (c.are_chosen.ensures c.if-not-are_chosen.false) (ascends_up c.as_slice-core.result.now (sym c.ascend.ensures ∙ c.if-not-ascend.false))

pub returns : goal.returns
returns g c = λ t.
    let m = g.P.Puzzle.meaning c.args.puzzle.now in
    let s = c.args.state.now in
    let core = c.as_slice-core.result.now in
    let chosen = c.as_slice-chosen.result.now in
    let within : IsSubset core chosen = c.are_chosen.ensures c.if-not-are_chosen.false in
    let up : Ascends core = ascends_up core (sym c.ascend.ensures ∙ c.if-not-ascend.false) in
    core_of m s.nogoods.items s.pairs.items s.pairs.items (next_pair s) c.args.failure.now.reason core c.args.failure.now.core.items refl c.as_slice-core.ensures.value
    (judged_core m s c.args.more c.as_slice-nogoods.result.now chosen c.args.failure.now.reason core c.as_slice-nogoods.ensures.value c.as_slice-chosen.ensures.value c.requires.next
    (record { inside = within; ascends = up; explained = c.explains.ensures.0 t }))
