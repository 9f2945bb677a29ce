use Rattle.std.proofs.Common.{◌≡◌, ◌++◌, take}
use Rattle.std.specs.List.{flat_map}
use Rattle.ips_records.specs.Lines.{ended}
use Rattle.ips_state.specs.Text.{mediator_line}
use Rattle.ips_state.proofs.printing.push_mediators.Given as goal

abbrev pub invariant-loop-mediator : goal.invariant-loop-mediator
invariant-loop-mediator l = l.out.items ≡ l.fn.out.items ++ flat_map (λ m. ended (mediator_line m)) (take l.mediator-index l.mediators)
