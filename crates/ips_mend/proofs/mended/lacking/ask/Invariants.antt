use Rattle.std.proofs.Common.{◌≡◌, IsTrue, length, map, take}
use Rattle.ips_outside.specs.Outside.{Reads}
use Rattle.ips_after.specs.Repaired.{Repair, mended}
use Rattle.ips_change.specs.Told.{change_told}
use Rattle.ips_change.specs.survey.Marks.{row_paths}
use Rattle.ips_links.proofs.Linked.{at_path}
use Rattle.ips_mend.specs.mended.Mending.{AreRowsFor, lacks, links_among}
use Rattle.ips_mend.proofs.mended.lacking.ask.Given as goal

abbrev pub invariant-loop-i : goal.invariant-loop-i
invariant-loop-i g l = record {
  long : length l.marks.items ≡ l.i;
  reads : Reads g.S.Source.outside l.fn.source l.source ⊥;
  so_far : IsTrue (g.S.Source.outside.tells l.fn.source) → (f : Repair) → AreRowsFor f.want l.rows
      → map (change_told f.bytes) l.own ≡ map (mended f (g.S.Source.outside.state l.fn.source).held) (row_paths l.rows)
      → l.led ≡ map (links_among f (g.S.Source.outside.state l.fn.source).held (row_paths l.rows)) (row_paths l.rows)
      → l.marks.items ≡ map (at_path (lacks f (g.S.Source.outside.state l.fn.source).held)) (take l.i l.rows);
}
