use Rattle.std.proofs.Common.{◌≡◌, [], drop}
use Rattle.ips_catalog.specs.Reading.{versions_at}
use Rattle.ips_catalog.specs.Outline.{entries_data}
use Rattle.ips_catalog.proofs.entries.read_versions.Given as goal

abbrev pub invariant-loop-index : goal.invariant-loop-index
invariant-loop-index l =
    versions_at l.publisher l.stem 0 [] (entries_data l.entries) ≡ versions_at l.publisher l.stem l.index l.versions.keys (entries_data (drop l.index l.entries))
