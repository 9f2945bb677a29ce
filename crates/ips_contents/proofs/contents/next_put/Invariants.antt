use Rattle.std.proofs.Common.{◌≡◌, map, take}
use Rattle.ips_steps.specs.View.{step_of}
use Rattle.ips_journal.specs.Reading.{puts_in}
use Rattle.ips_contents.proofs.contents.next_put.Given as goal

abbrev pub invariant-loop-at : goal.invariant-loop-at
invariant-loop-at l = puts_in (take l.at (map step_of l.steps)) ≡ puts_in (take l.place (map step_of l.steps))
