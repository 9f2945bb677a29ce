use Rattle.std.proofs.Common.{subst}
use Rattle.ips_asked.specs.Named.{ArePutIn}
use Rattle.ips_asked.proofs.Latest.{put_in_place}
use Rattle.ips_asked.proofs.named.put_in.Goals as goal

pub returns : goal.returns
returns g c =
    let new = c.in_ok-items.field-0.items in
    subst (λ old. ArePutIn g.T.Named.name_of c.args.more.now old new) c.deref.ensures.value
    (put_in_place g.T.Named.name_of c.deref.result.now c.args.more.now new c.new-by_name.result.entries c.put_each.new.by_name.entries c.put_each-2.new.by_name.entries
    c.new-by_name.ensures.empty c.in_ok-put_each.ensures.found c.in_ok-put_each-2.ensures.found c.in_ok-items.ensures)
