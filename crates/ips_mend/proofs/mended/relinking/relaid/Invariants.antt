use Rattle.std.proofs.Common.{◌≡◌, length, map, take}
use Rattle.ips_outside.specs.Image.{Image}
use Rattle.ips_after.specs.Repaired.{Repair, is_relaid, mended}
use Rattle.ips_change.specs.Told.{change_told}
use Rattle.ips_change.specs.survey.Marks.{row_paths}
use Rattle.ips_links.proofs.Linked.{at_path}
use Rattle.ips_mend.specs.mended.Mending.{AreRowsFor, lacks}
use Rattle.ips_mend.proofs.mended.relinking.relaid.Given as goal

abbrev pub invariant-loop-i : goal.invariant-loop-i
invariant-loop-i l = record {
  long : length l.marks.items ≡ l.i;
  so_far : (f : Repair) (t : Image) → AreRowsFor f.want l.rows → map (change_told f.bytes) l.own ≡ map (mended f t) (row_paths l.rows) → l.lacking ≡ map (lacks f t) (row_paths l.rows)
      → l.marks.items ≡ map (at_path (is_relaid f t)) (take l.i l.rows);
}
