use Rattle.std.proofs.Common.{take}
use Rattle.ips_found.specs.Found.{thing_paths}
use Rattle.ips_aside.specs.Lost.{IsMarked, folder_paths}
use Rattle.ips_aside.proofs.finding.mark_things.Given as goal

abbrev pub invariant-loop-i : goal.invariant-loop-i
invariant-loop-i l = record {
  marked : IsMarked l.taken (folder_paths l.root.bytes (thing_paths (take l.i l.things)));
}
