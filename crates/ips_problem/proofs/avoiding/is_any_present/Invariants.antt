use Rattle.std.proofs.Common.{◌≡◌, false, take}
use Rattle.std.specs.List.{list_any}
use Rattle.ips_refute.specs.Meaning.{pairs}
use Rattle.ips_depend.specs.Selection.{is_present}
use Rattle.ips_problem.specs.Posed.{picked}
use Rattle.ips_problem.specs.Seen.{puzzle_of}
use Rattle.ips_problem.proofs.avoiding.is_any_present.Given as goal

abbrev pub invariant-loop-fmri : goal.invariant-loop-fmri
invariant-loop-fmri l = list_any (is_present (picked (puzzle_of l.stems.keys l.rows) (pairs l.chosen))) (take l.fmri-index l.fmris) ≡ false
