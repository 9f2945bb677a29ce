use Rattle.std.proofs.Common.{◌<◌, ◌≤◌, ◌+◌, ◌-◌, ◌++◌, IsTrue, List, length, map, drop}
use Rattle.std.specs.List.{AllByRecursion}
use Rattle.ips_outside.specs.Outside.{Reads}
use Rattle.ips_change.specs.survey.Pairs.{Pair}
use Rattle.ips_change.specs.survey.Rows.{HasLooked, row_pair}
use Rattle.ips_change.proofs.survey.Paired.{Merges}
use Rattle.ips_change.proofs.survey.surveying.merge.Given as goal

abbrev pub invariant-loop-pair : goal.invariant-loop-pair
invariant-loop-pair g l = record {
  room : 0 < length l.buffer;
  old_within : l.i ≤ length l.old;
  new_within : l.j ≤ length l.new;
  reads : Reads g.F.Source.outside l.fn.folder l.folder ⊥;
  merged : (rest : List Pair) → Merges rest (drop l.i l.old) (drop l.j l.new) → Merges (map row_pair l.rows.items ++ rest) l.old l.new;
  found : IsTrue (g.F.Source.outside.tells l.fn.folder) → AllByRecursion (HasLooked (g.F.Source.outside.state l.fn.folder).held) l.rows.items;
}

abbrev pub decreases-loop-pair : goal.decreases-loop-pair
decreases-loop-pair g l = (length l.old - l.i) + (length l.new - l.j)
