use Rattle.std.proofs.Common.{◌≡◌, ◌++◌, ◌∷◌, string_bytes, take}
use Rattle.std.specs.List.{flat_map}
use Rattle.ips_refute.specs.Text.{pair_text}
use Rattle.ips_refute.proofs.printing.push_more_pairs.Given as goal

abbrev pub invariant-loop-pair : goal.invariant-loop-pair
invariant-loop-pair l = string_bytes l.out ≡ string_bytes l.fn.out ++ flat_map (λ q. 44 ∷ pair_text q) (take l.pair-index l.set)
