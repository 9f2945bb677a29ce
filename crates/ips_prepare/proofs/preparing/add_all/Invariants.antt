use Rattle.std.proofs.Common.{◌≡◌, ◌++◌}
use Rattle.std.specs.List.{flat_map}
use Rattle.ips_prepare.specs.Prepared.{contents_in}
use Rattle.ips_prepare.proofs.Entries.{lines_in}
use Rattle.ips_prepare.proofs.preparing.add_all.Given as goal

abbrev pub invariant-loop-one : goal.invariant-loop-one
invariant-loop-one l = record {
  lines : l.prepared.manifest.lines.items ≡ l.fn.prepared.manifest.lines.items ++ lines_in l.yielded;
  contents : l.prepared.contents.items ≡ l.fn.prepared.contents.items ++ flat_map contents_in l.yielded;
  parts : l.yielded ++ l.one-iterator.rest.items ≡ l.fn.filled.items;
}
