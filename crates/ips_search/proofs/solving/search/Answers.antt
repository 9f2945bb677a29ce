use Rattle.std.proofs.Common.{arith}
use Rattle.ips_search.proofs.Walks.{chosen_is, refuted_is, spent}
use Rattle.ips_search.proofs.solving.search.Goals as goal

pub returns-then-len-stems : goal.returns-then-len-stems
returns-then-len-stems g c =
    let s = c.loop-reached.state in
    let inv = c.loop-reached.invariant in
    chosen_is (g.P.Puzzle.meaning c.args.puzzle.now) s c.into_choice.result c.loop-reached.reached c.args.limit inv.searching inv.counted c.loop-reached.auto.reached-end (omega (arith, c.if-len-stems.true, c.len.ensures, c.stems-stems.ensures, s.choice.ok.0)) c.into_choice.ensures

pub proceed-requires-clause-room : goal.proceed-requires-clause-room
proceed-requires-clause-room g c =
    let s = c.loop-reached.state in
    omega (arith, c.loop-reached.invariant.searching.begun.fits, c.if-len-stems.false, c.len.ensures, c.stems-stems.ensures, s.choice.ok.0)

pub loop-reached-preserved : goal.loop-reached-preserved
loop-reached-preserved g c =
    let moved = c.in_ok-found.ensures in
    let found = c.if-not-found.false in
    record {
      searching = c.in_ok-advance.ensures.searching;
      counted = c.in_ok-advance.ensures.counts c.loop-reached.reached (moved.keeps found c.loop-reached.reached c.loop-reached.invariant.counted);
    }

pub returns-then-not-found : goal.returns-then-not-found
returns-then-not-found g c = c.in_ok-refutation.ensures (g.P.Puzzle.meaning c.args.puzzle.now) (c.in_ok-found.ensures.refuted c.if-not-found.true)

pub returns-then-len-stems-2 : goal.returns-then-len-stems-2
returns-then-len-stems-2 g c =
    let s = c.loop-reached.state in
    let inv = c.loop-reached.invariant in
    chosen_is (g.P.Puzzle.meaning c.args.puzzle.now) s c.into_choice-then-len-stems-2.result c.loop-reached.reached c.args.limit inv.searching inv.counted c.loop-reached.auto.reached-end (omega (arith, c.if-len-stems-2.true, c.len-2.ensures, c.stems-stems.ensures, s.choice.ok.0)) c.into_choice-then-len-stems-2.ensures

pub proceed-requires-2-clause-room : goal.proceed-requires-2-clause-room
proceed-requires-2-clause-room g c =
    let s = c.loop-reached.state in
    omega (arith, c.loop-reached.invariant.searching.begun.fits, c.if-len-stems-2.false, c.len-2.ensures, c.stems-stems.ensures, s.choice.ok.0)

pub returns-then-not-found-2 : goal.returns-then-not-found-2
returns-then-not-found-2 g c = c.in_ok-refutation-2.ensures (g.P.Puzzle.meaning c.args.puzzle.now) (c.in_ok-found-2.ensures.refuted c.if-not-found-2.true)

pub returns : goal.returns
returns g c best is =
    let moved = c.in_ok-found-2.ensures in
    let found = c.if-not-found-2.false in
    let n = c.loop-reached.reached in
    let lt = spent (g.P.Puzzle.meaning c.args.puzzle.now) (g.met.P.Puzzle.lawful c.args.puzzle.now) c.proceed-2.new.state n (moved.searching found) (moved.keeps found n c.loop-reached.invariant.counted) (moved.begins found) best is in
    omega (arith, lt, c.loop-reached-test.false)
