use Rattle.std.proofs.Common.{◌≡◌, length, map, take}
use Rattle.ips_outside.specs.Image.{Image}
use Rattle.ips_after.specs.Request.{Request}
use Rattle.ips_links.proofs.Linked.{at_path}
use Rattle.ips_emptied.specs.order.Groups.{group_at}
use Rattle.ips_emptied.specs.order.Marking.{AreMarks}
use Rattle.ips_emptied.proofs.order.ordering.group_marks.Given as goal

abbrev pub invariant-loop-i : goal.invariant-loop-i
invariant-loop-i l = record {
  long : length l.marks.items ≡ l.i;
  so_far : (r : Request) (t : Image) → AreMarks r t l.marked → l.marks.items ≡ map (at_path (group_at r t l.group)) (take l.i l.marked.table.now.rows.items);
}
