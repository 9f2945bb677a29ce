use Rattle.std.proofs.Common.{◌≡◌, false, map, take}
use Rattle.std.specs.List.{list_any}
use Rattle.ips_request.specs.Stems.{has}
use Rattle.ips_request.specs.Case.{Naming}
use Rattle.ips_request.specs.Subject.{seen_naming}
use Rattle.ips_request.proofs.subject.is_named.Given as goal

abbrev pub invariant-loop-naming : goal.invariant-loop-naming
invariant-loop-naming l = list_any (λ (n : Naming). has l.stem n.stems) (map seen_naming (take l.naming-index l.named)) ≡ false
