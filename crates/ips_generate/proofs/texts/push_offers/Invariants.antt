use Rattle.std.proofs.Common.{◌≡◌, ◌++◌}
use Rattle.ips_generate.specs.Generated as spec
use Rattle.ips_generate.proofs.texts.push_offers.Given as goal

abbrev pub invariant-loop-i : goal.invariant-loop-i
invariant-loop-i l = record {
  written : l.out.items ≡ l.fn.out.items ++ spec.offers l.i;
}
