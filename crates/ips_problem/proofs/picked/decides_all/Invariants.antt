use Rattle.std.proofs.Common.{◌≡◌, ◌∷◌, true, take, option_to_list}
use Rattle.std.specs.List.{list_all}
use Rattle.ips_problem.specs.Posed.{decides}
use Rattle.ips_problem.proofs.picked.decides_all.Given as goal

abbrev pub invariant-loop-number : goal.invariant-loop-number
invariant-loop-number l = list_all (λ o. decides (l.more ∷ l.set) (option_to_list o)) (take l.number-index l.numbers) ≡ true
