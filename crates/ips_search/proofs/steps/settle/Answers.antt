use Rattle.std.proofs.Common.{◌≡◌, ap, ◌∙◌, subst, Option, None, arith, length}
use Rattle.ips_search.specs.declared.state.Failure.{Failure}
use Rattle.ips_search.specs.Searching.{IsJudged}
use Rattle.ips_search.proofs.Walks.{settled_end, settled_next, next_is}
use Rattle.ips_search.proofs.steps.settle.Goals as goal

pub judge_advised-requires : goal.judge_advised-requires
judge_advised-requires g c =
    let s = c.consult.new.state in
    let inv = c.loop-candidate.invariant in
    let more = c.in_ok-proposed.ensures in
    let same = more.same ∙ inv.same in
    let stem : c.len-stem.result ≡ length s.choice.items = omega (arith, c.len-stem.ensures, c.args.state.now.choice.ok.0, ap length same) in
    record {
      guide = c.requires.guide;
      searching = more.searching;
      next = next_is s c.len-stem.result c.loop-candidate.candidate stem (more.tried ∙ inv.tried);
      room = omega (arith, c.requires.room, stem, ap length same);
      offered = omega (arith, c.loop-candidate-test.true, c.candidates-count.ensures);
    }

pub loop-candidate-preserved : goal.loop-candidate-preserved
loop-candidate-preserved g c =
    let inv = c.loop-candidate.invariant in
    let more = c.in_ok-proposed.ensures in
    let r = c.in_ok-reject-in-Some.ensures in
    record {
      searching = r.searching;
      same = r.same ∙ more.same ∙ inv.same;
      tried = omega (arith, r.tried, more.tried, inv.tried);
      keeps = λ n k. r.keeps n (more.keeps n (inv.keeps n k));
    }

pub returns : goal.returns
returns g c =
    let m = g.P.Puzzle.meaning c.args.puzzle.now in
    let s = c.loop-candidate.state in
    let inv = c.loop-candidate.invariant in
    let stem : c.len-stem.result ≡ length s.choice.items = omega (arith, c.len-stem.ensures, c.args.state.now.choice.ok.0, ap length inv.same) in
    let stem0 : c.len-stem.result ≡ length c.args.state.now.choice.items = omega (arith, c.len-stem.ensures, c.args.state.now.choice.ok.0) in
    let count0 = c.candidates-count.ensures ∙ ap m.candidates stem0 in
    let count = c.candidates-count.ensures ∙ ap m.candidates stem in
    settled_end m c.args.state.now s inv.searching (omega (arith, c.requires.room, ap length inv.same)) inv.same inv.keeps
    (omega (arith, inv.tried, c.loop-candidate-test.false, c.loop-candidate.auto.candidate-end, count, count0, c.requires.searching.tried c.requires.room, c.len-first.ensures, c.args.state.now.top.reasons.ok.0))

pub returns-in-None : goal.returns-in-None
returns-in-None g c =
    let m = g.P.Puzzle.meaning c.args.puzzle.now in
    let s = c.consult.new.state in
    let inv = c.loop-candidate.invariant in
    let more = c.in_ok-proposed.ensures in
    let same = more.same ∙ inv.same in
    let stem : c.len-stem.result ≡ length s.choice.items = omega (arith, c.len-stem.ensures, c.args.state.now.choice.ok.0, ap length same) in
    let tried : length s.top.reasons.items ≡ c.loop-candidate.candidate = more.tried ∙ inv.tried in
    settled_next m c.args.state.now s more.searching same (λ n k. more.keeps n (inv.keeps n k))
    (omega (arith, c.requires.room, ap length same))
    (omega (arith, tried, c.loop-candidate-test.true, c.candidates-count.ensures, ap m.candidates stem, c.loop-candidate.auto.candidate-end))
    (subst (λ (o : Option Failure). IsJudged m s o) c.in-None.is c.in_ok-judged.ensures)
