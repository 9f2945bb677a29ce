use Rattle.std.proofs.Common.{ap, ◌∙◌, refl}
use Rattle.ips_refute.specs.declared.nogoods.Pair.{Pair}
use Rattle.ips_refute.specs.declared.nogoods.Reason.TheVariants.{Test}
use Rattle.ips_search.proofs.Walks.{Ascends-of, offered_more, free_more, judged_core}
use Rattle.ips_search.proofs.steps.judge_by_tests.Goals as goal

pub core-requires-clause-offered : goal.core-requires-clause-offered
core-requires-clause-offered g c = offered_more (g.P.Puzzle.meaning c.args.puzzle.now) c.args.state.now.choice.items c.args.more c.as_slice-chosen.result.now c.requires.searching.begun (c.as_slice-chosen.ensures.value ∙ c.requires.searching.paired) c.requires.room c.requires.offered

pub core-requires-clause-free : goal.core-requires-clause-free
core-requires-clause-free g c = free_more c.args.state.now.choice.items c.args.more c.as_slice-chosen.result.now (c.as_slice-chosen.ensures.value ∙ c.requires.searching.paired) (ap (λ (q : Pair). q.stem) c.requires.next)

pub core-requires-clause-ascends : goal.core-requires-clause-ascends
core-requires-clause-ascends g c = Ascends-of c.args.state.now.choice.items c.as_slice-chosen.result.now (c.as_slice-chosen.ensures.value ∙ c.requires.searching.paired)

pub returns-in_ok-core-in-Some : goal.returns-in_ok-core-in-Some
returns-in_ok-core-in-Some g c = judged_core (g.P.Puzzle.meaning c.args.puzzle.now) c.args.state.now c.args.more c.args.state.now.nogoods.items c.as_slice-chosen.result.now (Test c.in-Some.test) _ refl c.as_slice-chosen.ensures.value c.requires.next (c.in_ok-core-in-Some.ensures c.args.state.now.nogoods.items)
