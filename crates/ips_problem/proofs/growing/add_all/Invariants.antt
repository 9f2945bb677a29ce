use Rattle.std.proofs.Common.{◌≡◌, ◌++◌, map, take}
use Rattle.ips_request.specs.Stems.{stems_of, put_all}
use Rattle.ips_problem.specs.Posed.{numbered}
use Rattle.ips_problem.specs.Reach.{stems_wanted}
use Rattle.ips_problem.specs.Seen.{seen_test}
use Rattle.ips_problem.proofs.growing.add_all.Given as goal

abbrev pub invariant-loop-dependency : goal.invariant-loop-dependency
invariant-loop-dependency l =
    (map seen_test l.tests.items ≡ map seen_test l.initial.tests.items ++ numbered l.number l.candidate (take l.dependency-index l.dependencies))
    × (stems_of l.stems.keys ≡ put_all (stems_of l.initial.stems.keys) (stems_wanted (take l.dependency-index l.dependencies)))
