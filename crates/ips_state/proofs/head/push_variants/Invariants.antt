use Rattle.std.proofs.Common.{◌≡◌, ◌++◌, take}
use Rattle.std.specs.List.{flat_map}
use Rattle.ips_records.specs.Lines.{ended}
use Rattle.ips_state.specs.Text.{variant_line}
use Rattle.ips_state.proofs.head.push_variants.Given as goal

abbrev pub invariant-loop-name : goal.invariant-loop-name
invariant-loop-name l = l.out.items ≡ l.fn.out.items ++ flat_map (λ v. ended (variant_line (v.0.now, v.1.now))) (take l.name-index l.variants)
