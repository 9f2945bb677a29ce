use Rattle.std.proofs.Common.{◌≡◌, take}
use Rattle.std.specs.Prelude.{string_bytes}
use Rattle.ips_metafiles.specs.Records.{owners_text}
use Rattle.ips_metafiles.proofs.owner.owners.Given as goal

abbrev pub invariant-loop-row : goal.invariant-loop-row
invariant-loop-row l = string_bytes l.out ≡ owners_text (take l.row-index l.rows)
