use Rattle.std.proofs.Common.{◌≡◌, drop, length, map, take}
use Rattle.ips_outside.specs.Image.{Image}
use Rattle.ips_after.specs.Findings.{findings, findings_at}
use Rattle.ips_after.specs.Repaired.{Repair, mended}
use Rattle.ips_change.specs.Fitting.{Fits}
use Rattle.ips_change.specs.Told.{change_told}
use Rattle.ips_change.specs.survey.Marks.{row_paths}
use Rattle.ips_links.specs.Fitting.{AllFit}
use Rattle.ips_links.proofs.Linked.{at_path}
use Rattle.ips_verify.specs.Verified.{finding_told}
use Rattle.ips_mend.specs.mended.Mending.{AreRowsFor}
use Rattle.ips_mend.proofs.mended.listing.mended.Given as goal

abbrev pub invariant-loop-i : goal.invariant-loop-i
invariant-loop-i l = record {
  long : length l.own.items ≡ l.i;
  left : (f : Repair) (t : Image) → AreRowsFor f.want l.rows → map finding_told l.found ≡ findings f.holds f.want t → map finding_told l.left ≡ findings_at f.holds f.want t (drop l.i (row_paths l.rows));
  so_far : (f : Repair) (t : Image) → AreRowsFor f.want l.rows → map finding_told l.found ≡ findings f.holds f.want t → map (change_told f.bytes) l.own.items ≡ map (at_path (mended f t)) (take l.i l.rows);
  fit : AllFit Fits l.rows l.own.items;
}
