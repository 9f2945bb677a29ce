use Rattle.std.proofs.Common.{◌++◌, take}
use Rattle.ips_found.specs.Found.{thing_paths}
use Rattle.ips_aside.specs.Lost.{folder_paths, names_of}
use Rattle.ips_aside.specs.Ways.{IsMarkedAbove}
use Rattle.ips_aside.proofs.ways.mark_names.Given as goal

abbrev pub invariant-loop-i : goal.invariant-loop-i
invariant-loop-i l = record {
  marked : IsMarkedAbove l.above (folder_paths l.root.bytes (thing_paths l.things) ++ names_of (take l.i l.names));
}
