use Rattle.std.proofs.Common.{◌<◌, length, sym, subst}
use Rattle.std.specs.List.{AllByRecursion}
use Rattle.ips_emptied.proofs.order.ordering.add_all.Goals as goal

pub add_gone-requires-clause-within : goal.add_gone-requires-clause-within
add_gone-requires-clause-within c = subst (AllByRecursion (λ i. i < length c.args.marked.now.table.now.rows.items)) (sym c.requires.none) tt
