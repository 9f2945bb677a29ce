use Rattle.std.proofs.Common.{◌≡◌, ◌++◌, string_bytes, take}
use Rattle.std.specs.List.{flat_map}
use Rattle.ips_refute.specs.Text.{entry_of, entry_text}
use Rattle.ips_refute.proofs.printing.push_nogoods.Given as goal

abbrev pub invariant-loop-nogood : goal.invariant-loop-nogood
invariant-loop-nogood l = string_bytes l.out ≡ string_bytes l.fn.out ++ flat_map (λ g. entry_text (entry_of g)) (take l.nogood-index l.nogoods)
