use Rattle.std.proofs.Common.{◌≡◌}
use Rattle.ips_outside.specs.Tree.{tree_image}
use Rattle.ips_generate.specs.Generated as spec
use Rattle.ips_generate.proofs.generating.put_packages.Given as goal

abbrev pub invariant-loop-i : goal.invariant-loop-i
invariant-loop-i l = record {
  made : tree_image l.tree ≡ spec.with_packages l.i (tree_image l.fn.tree);
}
