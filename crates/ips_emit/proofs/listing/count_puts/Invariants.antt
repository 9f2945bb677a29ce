use Rattle.std.proofs.Common.{◌≡◌, ◌≤◌, map, take}
use Rattle.ips_steps.specs.View.{step_of}
use Rattle.ips_journal.specs.Reading.{puts_in}
use Rattle.ips_emit.proofs.listing.count_puts.Given as goal

abbrev pub invariant-loop-step : goal.invariant-loop-step
invariant-loop-step l = record {
  count : l.count ≡ puts_in (map step_of (take l.step-index l.steps));
  few : l.count ≤ l.step-index;
}
