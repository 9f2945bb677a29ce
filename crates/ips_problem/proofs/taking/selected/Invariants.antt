use Rattle.std.proofs.Common.{◌≡◌, map}
use Rattle.ips_state.specs.State.{installed}
use Rattle.ips_problem.specs.Seen.{puzzle_of}
use Rattle.ips_problem.specs.Taken.{selected_below}
use Rattle.ips_problem.proofs.taking.selected.Given as goal

abbrev pub invariant-loop-number : goal.invariant-loop-number
invariant-loop-number l = map installed l.packages.items ≡ selected_below (puzzle_of l.stems l.rows) l.chosen l.number
