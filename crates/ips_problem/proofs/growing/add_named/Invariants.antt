use Rattle.std.proofs.Common.{◌≡◌, flat_map, map, take}
use Rattle.ips_request.specs.Case.{Naming}
use Rattle.ips_request.specs.Stems.{stems_of, put_all}
use Rattle.ips_request.specs.Subject.{seen_naming}
use Rattle.ips_problem.proofs.growing.add_named.Given as goal

abbrev pub invariant-loop-naming : goal.invariant-loop-naming
invariant-loop-naming l = stems_of l.stems.keys ≡ put_all (stems_of l.initial.stems.keys) (flat_map (λ (n : Naming). n.stems) (map seen_naming (take l.naming-index l.named)))
