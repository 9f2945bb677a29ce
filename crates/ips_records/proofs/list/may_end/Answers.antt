use Rattle.ips_records.proofs.Items.{may_end_last}
use Rattle.ips_records.proofs.list.may_end.Goals as goal

pub returns-in-Some : goal.returns-in-Some
returns-in-Some g c =
    let last = may_end_last g.L.Listing.follows c.args.items.now c.in-Some.field-0-1.now c.in-Some.last.now c.args.item.now c.in-Some.ensures.cases in
    (λ yes. last.0 (c.may_follow.ensures.0 yes), λ may. c.may_follow.ensures.1 (last.1 may))
