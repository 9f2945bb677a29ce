use Rattle.std.proofs.Common.{◌≡◌, map, take}
use Rattle.ips_state.specs.State.{recorded}
use Rattle.ips_state.specs.Records.{entry_of}
use Rattle.ips_entries.specs.Part.{entry_at}
use Rattle.ips_entries.proofs.collecting.push_records.Given as goal

abbrev pub invariant-loop-place : goal.invariant-loop-place
invariant-loop-place l = map entry_of l.records.items ≡ map (entry_at (recorded l.state)) (take l.place-index l.places)
