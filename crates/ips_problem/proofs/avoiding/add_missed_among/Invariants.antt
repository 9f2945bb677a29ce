use Rattle.std.proofs.Common.{◌≡◌, ◌++◌, flat_map, take}
use Rattle.ips_refute.specs.Meaning.{pairs}
use Rattle.ips_problem.specs.Avoided.{absent_stem}
use Rattle.ips_problem.specs.Posed.{picked}
use Rattle.ips_problem.specs.Seen.{puzzle_of}
use Rattle.ips_problem.proofs.avoiding.add_missed_among.Given as goal

abbrev pub invariant-loop-fmri : goal.invariant-loop-fmri
invariant-loop-fmri l = l.missed.items ≡ l.initial.missed.items ++ flat_map (absent_stem (picked (puzzle_of l.stems.keys l.rows) (pairs l.chosen))) (take l.fmri-index l.fmris)
