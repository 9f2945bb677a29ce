use Rattle.std.proofs.Common.{◌<◌, ◌^◌, ltb, refl, rules}
use Rattle.ips_action.proofs.Numbers.{id_is}
use Rattle.ips_action.proofs.check.is_id.Goals as goal

pub returns-in-Some : goal.returns-in-Some
returns-in-Some c =
    let fits : c.in-Some.id < 2 ^ 64 = search rules in
    id_is c.args.value.now c.in-Some.id (ltb c.in-Some.id (2 ^ 32)) c.in-Some.ensures.found fits refl
