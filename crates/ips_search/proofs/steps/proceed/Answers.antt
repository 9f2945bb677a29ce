use Rattle.std.proofs.Common.{arith}
use Rattle.ips_search.proofs.Walks.{moved_found, moved_end}
use Rattle.ips_search.proofs.steps.proceed.Goals as goal

pub returns-then-found : goal.returns-then-found
returns-then-found g c = moved_found (g.P.Puzzle.meaning c.args.puzzle.now) c.args.state.now c.hunt.state c.settle.new.state c.in_ok-found.found c.hunt.invariant.keeps c.in_ok-found.ensures c.if-found.true

pub returns-then-done : goal.returns-then-done
returns-then-done g c = moved_end (g.P.Puzzle.meaning c.args.puzzle.now) c.args.state.now c.settle.new.state c.retreat.new.state c.in_ok-done.done c.in_ok-done.ensures c.if-done.true

pub hunt-preserved : goal.hunt-preserved
hunt-preserved g c =
    let a = c.in_ok-found.ensures in
    let r = c.in_ok-done.ensures in
    let no = c.if-done.false in
    record {
      searching = r.searching no;
      room = omega (arith, r.shorter no, a.room);
      keeps = λ n k. r.keeps no n (a.keeps n (c.hunt.invariant.keeps n k));
    }
