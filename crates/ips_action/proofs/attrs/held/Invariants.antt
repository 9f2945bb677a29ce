use Rattle.std.specs.Prelude.{string_bytes}
use Rattle.ips_action.proofs.Places.{Filled}
use Rattle.ips_action.proofs.attrs.held.Given as goal

abbrev pub invariant-loop-pair : goal.invariant-loop-pair
invariant-loop-pair l = Filled (string_bytes l.text) l.slots.items l.yielded
