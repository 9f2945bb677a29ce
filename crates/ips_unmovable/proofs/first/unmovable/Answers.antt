use Rattle.std.proofs.Common.{ℕ, ◌&&◌, ◌||◌, List, sym, subst}
use Rattle.std.specs.Option.{option_map}
use Rattle.ips_after.specs.Salvage.{has_long_side, salvaged, side_at}
use Rattle.ips_movable.specs.Movable.{cannot_move}
use Rattle.ips_movable.specs.First.{IsFirstPath, loses_foreign}
use Rattle.ips_unmovable.proofs.first.unmovable.Goals as goal

pub returns-clause-first : goal.returns-clause-first
returns-clause-first c = λ r t a root seen are foreign long.
    let rest = c.first_of.ensures.first (loses_foreign r t a.emptied) (λ p. has_long_side r t a p (side_at r t p)) foreign long in
    let all = c.first_of-2.ensures.first (λ p. salvaged r t p && cannot_move t c.args.root.now.bytes p) (λ p. loses_foreign r t a.emptied p || has_long_side r t a p (side_at r t p)) (c.first_fixed.ensures.first r t seen are) rest in
    subst (λ (x : List ℕ). IsFirstPath (λ p. (salvaged r t p && cannot_move t x p) || (loses_foreign r t a.emptied p || has_long_side r t a p (side_at r t p))) (option_map (λ x. x.now) c.first_of-2.result)) (sym root) all
