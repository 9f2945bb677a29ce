use Rattle.std.proofs.Common.{◌||◌}
use Rattle.ips_after.specs.Salvage.{has_long_side, side_at}
use Rattle.ips_aside.specs.Long.{long_name_at, too_long_at}
use Rattle.ips_aside.proofs.Firsts.{first_as, path_of}
use Rattle.ips_aside.proofs.Lengths.{long_same}
use Rattle.ips_aside.proofs.long.first_long_side.Goals as goal

pub returns : goal.returns
returns c = λ r t a things are.
    let sides = c.args.sides.now in
    let names = c.args.names.now in
    first_as (λ q. too_long_at sides q || long_name_at names q) (λ q. has_long_side r t a q (side_at r t q)) (path_of c.first_of.result) (long_same r t a things sides names are)
    (c.first_of.ensures (too_long_at sides) (long_name_at names) c.first_too_long.ensures c.first_long_name.ensures)
