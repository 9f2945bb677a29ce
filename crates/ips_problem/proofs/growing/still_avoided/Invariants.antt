use Rattle.std.proofs.Common.{◌≡◌, ℕ, ◌&&◌, not, List, filter, map, take}
use Rattle.std.specs.List.{list_any}
use Rattle.ips_request.specs.Stems.{has}
use Rattle.ips_request.specs.Case.{Naming}
use Rattle.ips_request.specs.Candidates.{installs}
use Rattle.ips_request.specs.Subject.{seen_naming}
use Rattle.ips_problem.proofs.growing.still_avoided.Given as goal

abbrev pub invariant-loop-stem : goal.invariant-loop-stem
invariant-loop-stem l =
    l.avoid.items ≡ filter (λ (stem : List ℕ). not (installs l.subject.kind && list_any (λ (n : Naming). has stem n.stems) (map seen_naming l.subject.named.items))) (take l.stem-index l.subject.state.now.avoid.items)
