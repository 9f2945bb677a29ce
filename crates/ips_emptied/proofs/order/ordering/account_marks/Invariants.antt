use Rattle.std.proofs.Common.{◌≡◌, length, map, take}
use Rattle.ips_after.specs.Planned.{lays_account}
use Rattle.ips_after.specs.Request.{Request}
use Rattle.ips_change.specs.survey.Marks.{row_paths}
use Rattle.ips_change.specs.survey.Tables.{IsTable}
use Rattle.ips_links.proofs.Linked.{at_path}
use Rattle.ips_emptied.proofs.order.ordering.account_marks.Given as goal

abbrev pub invariant-loop-i : goal.invariant-loop-i
invariant-loop-i l = record {
  long : length l.marks.items ≡ l.i;
  so_far : (r : Request) → IsTable r l.table.rows.items l.table.said.items → l.accounts ≡ map r.over.is_account (row_paths l.table.rows.items) → l.marks.items ≡ map (at_path (lays_account r)) (take l.i l.table.rows.items);
}
