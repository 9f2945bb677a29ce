use Rattle.std.proofs.Common.{◌≡◌}
use Rattle.ips_generate.specs.Generated as spec
use Rattle.ips_generate.proofs.texts.all_manifest.Given as goal

abbrev pub invariant-loop-i : goal.invariant-loop-i
invariant-loop-i l = record {
  written : l.out.items ≡ spec.all_manifest l.i;
}
