use Rattle.std.proofs.Common.{◌≡◌, [], Vec, Global, List, ℕ, take}
use Rattle.std.specs.List.{flat_map}
use Rattle.ips_request.specs.Stems.{stems_of, put_all}
use Rattle.ips_request.proofs.making.each_once.Given as goal

abbrev pub invariant-loop-list : goal.invariant-loop-list
invariant-loop-list l = stems_of l.stems.keys ≡ put_all [] (flat_map (λ (v : Vec (List ℕ) Global). v.items) (take l.list-index l.lists))
