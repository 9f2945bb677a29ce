use Rattle.std.proofs.Common.{◌≡◌, suc, ◌+◌, ◌∙◌, ap, arith}
use Rattle.ips_outside.specs.Image.{Image}
use Rattle.ips_outside.specs.Tree.{tree_image}
use Rattle.ips_generate.specs.Generated as spec
use Rattle.ips_generate.proofs.generating.put_packages.Goals as goal

pub loop-i-preserved : goal.loop-i-preserved
loop-i-preserved c =
    let next : c.loop-i.i + 1 ≡ suc c.loop-i.i = omega arith in
    let made : tree_image c.put_package.new.tree ≡ spec.with_packages (suc c.loop-i.i) (tree_image c.args.tree.now) =
    c.in_ok-put_package.ensures ∙ ap (λ (t : Image). spec.with_package c.loop-i.i t) c.loop-i.invariant.made in
    record { made = rw next made }
