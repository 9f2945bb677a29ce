use Rattle.std.proofs.Common.{◌≡◌, ◌++◌, map, take}
use Rattle.ips_state.specs.State.{installed}
use Rattle.ips_entries.specs.Part.{numbered, owned}
use Rattle.ips_entries.proofs.placing.push_packages.Given as goal

abbrev pub invariant-loop-number : goal.invariant-loop-number
invariant-loop-number l = map owned l.places.items ≡ map owned l.fn.places.items ++ numbered l.first 0 (map installed (take l.number l.packages))
