use Rattle.std.proofs.Common.{◌≡◌, ◌<◌, length, rules, arith}
use Rattle.ips_load.proofs.OriginsDiffer.{none_in_first}
use Rattle.ips_load.proofs.origins.first_bad_origin.Goals as goal

pub returns-then-not-is_empty-clause-some : goal.returns-then-not-is_empty-clause-some
returns-then-not-is_empty-clause-some c =
    let one : c.args.format ≡ 1 = search rules in
    let some : 0 < length c.args.origins.now = search rules in
    none_in_first c.args.format c.args.origins.now one some
