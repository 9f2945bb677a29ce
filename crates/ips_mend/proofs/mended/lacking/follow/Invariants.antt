use Rattle.std.proofs.Common.{◌≡◌, length, map, take}
use Rattle.ips_outside.specs.Image.{Image}
use Rattle.ips_after.specs.Repaired.{Repair, mended}
use Rattle.ips_change.specs.Told.{change_told}
use Rattle.ips_change.specs.survey.Marks.{row_paths}
use Rattle.ips_mend.specs.mended.Mending.{AreRowsFor, links_among}
use Rattle.ips_mend.proofs.mended.lacking.follow.Given as goal

abbrev pub invariant-loop-i : goal.invariant-loop-i
invariant-loop-i l = record {
  long : length l.led ≡ length l.rows;
  so_far : (f : Repair) (t : Image) → AreRowsFor f.want l.rows → map (change_told f.bytes) l.own ≡ map (mended f t) (row_paths l.rows) → l.led ≡ map (links_among f t (row_paths (take l.i l.rows))) (row_paths l.rows);
}
