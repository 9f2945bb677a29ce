use Rattle.std.proofs.Common.{refl, arith}
use Rattle.std.specs.Prelude.{codes}
use Rattle.ips_entries.proofs.Written.{path_in}
use Rattle.ips_entries.proofs.placing.push_common.Goals as goal

pub push_place-requires : goal.push_place-requires
push_place-requires c = path_in (codes "image") (record { bytes = refl; some = omega arith; few = omega arith; no_dots = refl })

pub push_place-requires-2 : goal.push_place-requires-2
push_place-requires-2 c = path_in (codes "avoid") (record { bytes = refl; some = omega arith; few = omega arith; no_dots = refl })

pub push_place-requires-3 : goal.push_place-requires-3
push_place-requires-3 c = path_in (codes "freeze") (record { bytes = refl; some = omega arith; few = omega arith; no_dots = refl })

pub push_place-requires-4 : goal.push_place-requires-4
push_place-requires-4 c = path_in (codes "mediators") (record { bytes = refl; some = omega arith; few = omega arith; no_dots = refl })

pub push_place-requires-5 : goal.push_place-requires-5
push_place-requires-5 c = path_in (codes "history") (record { bytes = refl; some = omega arith; few = omega arith; no_dots = refl })
