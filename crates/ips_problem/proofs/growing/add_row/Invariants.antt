use Rattle.std.proofs.Common.{◌≡◌, ◌++◌, flat_map, map, take}
use Rattle.ips_request.specs.Stems.{stems_of, put_all}
use Rattle.ips_problem.specs.Gathered.{asked_at, tests_asked}
use Rattle.ips_problem.specs.Reach.{stems_wanted}
use Rattle.ips_problem.specs.Seen.{seen_test}
use Rattle.ips_problem.proofs.growing.add_row.Given as goal

abbrev pub invariant-loop-candidate : goal.invariant-loop-candidate
invariant-loop-candidate l =
    (map seen_test l.tests.items ≡ map seen_test l.initial.tests.items ++ tests_asked l.number 0 l.row.reads.items (take l.candidate l.row.candidates.items))
    × (stems_of l.stems.keys ≡ put_all (stems_of l.initial.stems.keys) (flat_map (λ o. stems_wanted (asked_at l.row.reads.items o)) (take l.candidate l.row.candidates.items)))
