use Rattle.std.proofs.Common.{◌≡◌, ◌++◌, ℕ, List, map, take}
use Rattle.ips_steps.specs.View.{step_of}
use Rattle.ips_journal.specs.Text.{step_lines}
use Rattle.ips_journal.proofs.writing.write_lines.Given as goal

abbrev pub invariant-loop-step : goal.invariant-loop-step
invariant-loop-step l = (rest : List ℕ) → l.text.items ++ rest ≡ l.initial.text.items ++ step_lines (map step_of (take l.step-index l.steps)) rest
