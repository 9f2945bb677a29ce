use Rattle.std.proofs.Common.{refl, arith}
use Rattle.std.specs.Prelude.{codes}
use Rattle.ips_entries.proofs.Written.{path_in}
use Rattle.ips_entries.proofs.placing.push_places.Goals as goal

pub push_place-requires : goal.push_place-requires
push_place-requires c = path_in (codes "installed") (record { bytes = refl; some = omega arith; few = omega arith; no_dots = refl })
