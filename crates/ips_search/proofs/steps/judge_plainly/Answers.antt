use Rattle.std.proofs.Common.{◌∙◌, refl}
use Rattle.ips_refute.specs.declared.nogoods.Reason.TheVariants.{Test}
use Rattle.ips_search.proofs.Walks.{Ascends-of, judged_core, whole_core}
use Rattle.ips_search.proofs.steps.judge_plainly.Goals as goal

pub returns-in_ok-core-in-Some : goal.returns-in_ok-core-in-Some
returns-in_ok-core-in-Some g c =
    let m = g.P.Puzzle.meaning c.args.puzzle.now in
    let s = c.args.state.now in
    let chosen = c.as_slice-chosen.result.now in
    judged_core m s c.args.more s.nogoods.items chosen (Test c.in-Some.test) c.in_ok-core-in-Some.core.items refl c.as_slice-chosen.ensures.value c.requires.next
    (whole_core m s.nogoods.items chosen c.args.more c.in-Some.test c.in_ok-core-in-Some.core.items c.in_ok-core-in-Some.ensures.items c.in-Some.ensures.0
    (Ascends-of s.choice.items chosen (c.as_slice-chosen.ensures.value ∙ c.requires.searching.paired)) c.in-Some.ensures.1)
