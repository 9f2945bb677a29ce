use Rattle.std.proofs.Common.{◌≡◌, ℕ, List, length, map, take}
use Rattle.ips_outside.specs.Image.{Image}
use Rattle.ips_after.specs.Repaired.{IsRepair, Repair, mended, relinked_as}
use Rattle.ips_change.specs.Fitting.{Fits}
use Rattle.ips_change.specs.Told.{change_told}
use Rattle.ips_change.specs.survey.Marks.{row_paths}
use Rattle.ips_links.specs.Fitting.{AllFit}
use Rattle.ips_links.proofs.Linked.{at_path}
use Rattle.ips_mend.specs.mended.Mending.{AreRowsFor, lacks}
use Rattle.ips_mend.proofs.mended.relinking.relinked.Given as goal

abbrev pub invariant-loop-i : goal.invariant-loop-i
invariant-loop-i l = record {
  long : length l.changes.items ≡ l.i;
  so_far : (f : Repair) (t : Image) → IsRepair f → AreRowsFor f.want l.rows → map (change_told f.bytes) l.own ≡ map (mended f t) (row_paths l.rows) → l.lacking ≡ map (lacks f t) (row_paths l.rows)
      → map (change_told f.bytes) l.changes.items ≡ map (at_path (λ (p : List ℕ). relinked_as f t p (f.want.at p))) (take l.i l.rows);
  fit : AllFit Fits l.rows l.own → AllFit Fits l.rows l.changes.items;
}
