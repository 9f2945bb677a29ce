use Rattle.ips_search.specs.Indexing.{IsIndexedTo}
use Rattle.ips_search.proofs.chains.index_tests.Given as goal

abbrev pub invariant-loop-test : goal.invariant-loop-test
invariant-loop-test g l = IsIndexedTo (g.P.Puzzle.meaning l.puzzle) l.test l.tests
