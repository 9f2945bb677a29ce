use Rattle.std.proofs.Common.{subst, ℕ, arith}
use Rattle.ips_search.specs.Indexing.{IsPut}
use Rattle.ips_search.proofs.Linking.{put_one}
use Rattle.ips_search.proofs.chains.index_tests.Goals as goal

pub loop-test-preserved : goal.loop-test-preserved
loop-test-preserved g c =
    let m = g.P.Puzzle.meaning c.args.puzzle.now in
    put_one m c.loop-test.test c.loop-test.tests c.put.new.self ((g.met.P.Puzzle.lawful c.args.puzzle.now).known c.loop-test.test (omega (arith, c.loop-test-test.true, c.tests-count.ensures))) c.loop-test.invariant (subst (λ (s : ℕ). IsPut c.loop-test.tests c.put.new.self s) c.last-last.ensures c.in_ok-put.ensures)
