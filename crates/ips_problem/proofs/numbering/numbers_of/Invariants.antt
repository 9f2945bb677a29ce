use Rattle.std.proofs.Common.{◌≡◌, map, take}
use Rattle.ips_problem.specs.Posed.{greatest_of, stems_of_test}
use Rattle.ips_problem.specs.Seen.{numbers_mentioned, puzzle_of, seen_numbers, seen_test}
use Rattle.ips_problem.proofs.numbering.numbers_of.Given as goal

abbrev pub invariant-loop-test : goal.invariant-loop-test
invariant-loop-test l =
    (map seen_numbers l.all.items ≡ map (λ n. numbers_mentioned (puzzle_of l.stems.keys l.rows) (seen_test n)) (take l.test-index l.tests))
    × (map (λ m. m.last) l.all.items ≡ map (λ n. greatest_of (stems_of_test (puzzle_of l.stems.keys l.rows) (seen_test n))) (take l.test-index l.tests))
