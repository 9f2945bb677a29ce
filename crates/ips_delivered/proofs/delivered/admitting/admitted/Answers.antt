use Rattle.std.proofs.Common.{◌<◌, List, take, length, sym, subst, arith}
use Rattle.ips_filter.specs.Admitted.{Admits}
use Rattle.ips_conflict.specs.declared.placed.Placed.{Placed}
use Rattle.ips_meaning.specs.Taken.{Leaves, placed_of, all_placed}
use Rattle.ips_meaning.proofs.Left.{left_more}
use Rattle.ips_delivered.proofs.delivered.admitting.admitted.Goals as goal
use Rattle.ips_text.proofs.Lists.{flat_item}

pub loop-pkg-preserved : goal.loop-pkg-preserved
loop-pkg-preserved c =
    let P : Placed → Type 0 = λ p. Admits c.args.settings.now p.action.attrs in
    let packages = c.args.packages.now in
    let lt : c.loop-pkg.pkg-index < length packages = omega arith in
    let front = flat_item placed_of packages c.loop-pkg.pkg-index c.pkg-item.result lt c.pkg-item.is in
    subst (λ (l : List Placed). Leaves P l c.add_package.new.admitted.items) (sym front)
    (left_more P (all_placed (take c.loop-pkg.pkg-index packages)) (placed_of c.pkg-item.result) c.loop-pkg.admitted.items c.add_package.new.admitted.items c.loop-pkg.invariant c.in_ok-add_package.ensures)
