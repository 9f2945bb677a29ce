use Rattle.std.proofs.Common.{◌≡◌, ◌++◌, map, take}
use Rattle.ips_found.specs.Found.{thing_paths}
use Rattle.ips_aside.specs.Lost.{AreFirstFree, IsMarked, folder_paths, lost_seen, names_of}
use Rattle.ips_aside.proofs.finding.name_each.Given as goal

abbrev pub invariant-loop-i : goal.invariant-loop-i
invariant-loop-i l = record {
  seen : map lost_seen l.names.items ≡ take l.i l.lost;
  marked : IsMarked l.taken (folder_paths l.root.bytes (thing_paths l.things) ++ names_of l.names.items);
  free : AreFirstFree l.root.bytes (folder_paths l.root.bytes (thing_paths l.things)) l.names.items;
}
