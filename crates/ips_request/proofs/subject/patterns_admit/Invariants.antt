use Rattle.std.proofs.Common.{◌≡◌, true, not, ◌||◌, map, take}
use Rattle.std.specs.List.{list_all}
use Rattle.ips_depend.specs.Matching.{admits}
use Rattle.ips_request.specs.Stems.{has}
use Rattle.ips_request.specs.Case.{Naming}
use Rattle.ips_request.specs.Subject.{seen_naming}
use Rattle.ips_request.proofs.subject.patterns_admit.Given as goal

abbrev pub invariant-loop-naming : goal.invariant-loop-naming
invariant-loop-naming l = list_all (λ (n : Naming). not (has l.stem n.stems) || admits n.limit l.version) (map seen_naming (take l.naming-index l.named)) ≡ true
