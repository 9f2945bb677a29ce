use Rattle.std.proofs.Common.{rules}
use Rattle.ips_catalog.proofs.Orders.{nothing_in_order}
use Rattle.ips_catalog.proofs.catalog.read_value.Goals as goal

pub invariant_of-result : goal.invariant_of-result
invariant_of-result c = rw c.new.ensures.items (nothing_in_order, search rules)
