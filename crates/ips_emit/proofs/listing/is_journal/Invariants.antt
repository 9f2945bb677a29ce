use Rattle.std.proofs.Common.{◌≡◌, ◌≤◌, map, take}
use Rattle.ips_steps.specs.Journal.{IsJournal}
use Rattle.ips_steps.specs.View.{step_of}
use Rattle.ips_journal.specs.Reading.{puts_in}
use Rattle.ips_emit.proofs.listing.is_journal.Given as goal

abbrev pub invariant-loop-step : goal.invariant-loop-step
invariant-loop-step l = record {
  journal : IsJournal (map step_of (take l.step-index l.steps));
  puts : l.puts ≡ puts_in (map step_of (take l.step-index l.steps));
  few : l.puts ≤ l.step-index;
}
