use Rattle.std.proofs.Common.{◌≤◌, ◌+◌, ◌-◌, length}
use Rattle.ips_change.proofs.survey.Filling.{Filled}
use Rattle.ips_change.proofs.survey.merging.fill.Given as goal

abbrev pub invariant-loop-line : goal.invariant-loop-line
invariant-loop-line l = record {
  rows_within : l.i ≤ length l.rows;
  spoken_within : l.j ≤ length l.spoken;
  filled : Filled l.rows l.spoken l.i l.j l.table.rows.items l.table.said.items;
}

abbrev pub decreases-loop-line : goal.decreases-loop-line
decreases-loop-line l = (length l.rows - l.i) + (length l.spoken - l.j)
