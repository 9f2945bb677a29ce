use Rattle.std.proofs.Common.{List, ℕ, sym, subst}
use Rattle.ips_outside.specs.Order.{IsFirstFrom}
use Rattle.ips_outside.proofs.Order.{first_found, none_found}
use Rattle.ips_outside.proofs.subtree.first_from.Goals as goal

pub returns-in-Some : goal.returns-in-Some
returns-in-Some c =
    subst (λ (first : List ℕ). IsFirstFrom c.args.paths.now.entries c.args.from.now.items first) (sym c.deref.ensures.value)
    (first_found c.args.paths.now c.args.from.now c.range.result (c.range.ensures.in_range tt) c.in-Some.first.now _ _ c.in-Some.ensures.steps)

pub returns-in-None : goal.returns-in-None
returns-in-None c = none_found c.args.paths.now c.args.from.now c.range.result (c.range.ensures.in_range tt) c.in-None.ensures.steps.0
