use Rattle.std.proofs.Common.{◌∙◌, sym}
use Rattle.ips_outside.proofs.Order.{next_found, none_below}
use Rattle.ips_outside.proofs.subtree.next_below.Goals as goal

pub returns-then-below : goal.returns-then-below
returns-then-below c = next_found c.args.paths.now.entries c.args.path.now c.args.from.now.items c.requires c.in_ok-first.first.now c.in_ok-first.ensures (sym c.covers-below.ensures ∙ c.if-below.true)

pub returns-else-below : goal.returns-else-below
returns-else-below c = none_below c.args.paths.now.entries c.args.path.now c.args.from.now.items c.requires c.in_ok-first.first.now c.in_ok-first.ensures (sym c.covers-below.ensures ∙ c.if-below.false)
