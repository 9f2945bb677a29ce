use Rattle.std.proofs.Common.{◌≡◌, length}
use Rattle.ips_outside.proofs.Cuts.{IsCutTo}
use Rattle.ips_outside.proofs.tearing.cut_others.Given as goal

abbrev pub invariant-loop-i : goal.invariant-loop-i
invariant-loop-i l = record {
  length : length l.nodes.items ≡ length l.initial.nodes.items;
  cut : IsCutTo l.initial.nodes.items l.kept l.i l.nodes.items;
}
