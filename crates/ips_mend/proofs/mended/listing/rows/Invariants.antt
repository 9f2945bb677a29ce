use Rattle.std.proofs.Common.{◌≡◌, map, take}
use Rattle.std.specs.List.{AllByRecursion}
use Rattle.ips_change.specs.wanted.Wanted.{want_of}
use Rattle.ips_change.specs.survey.Marks.{row_paths}
use Rattle.ips_mend.specs.mended.Mending.{IsRowFor}
use Rattle.ips_mend.proofs.mended.listing.rows.Given as goal

abbrev pub invariant-loop-i : goal.invariant-loop-i
invariant-loop-i l = record {
  paths : row_paths l.rows.items ≡ map (λ e. e.0) (take l.i l.want);
  entries : AllByRecursion (IsRowFor (want_of l.want)) l.rows.items;
}
