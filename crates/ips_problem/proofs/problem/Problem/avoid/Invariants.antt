use Rattle.std.proofs.Common.{◌≡◌, ◌++◌, flat_map, take}
use Rattle.ips_problem.specs.Avoided.{missed_by}
use Rattle.ips_problem.specs.Seen.{puzzle_of, seen_test}
use Rattle.ips_problem.proofs.problem.Problem.avoid.Given as goal

abbrev pub invariant-loop-test : goal.invariant-loop-test
invariant-loop-test l = l.stems.items ≡ l.self.avoid.items ++ flat_map (λ t. missed_by (puzzle_of l.self.stems.keys l.self.rows.items) l.chosen (seen_test t)) (take l.test-index l.self.tests.items)
