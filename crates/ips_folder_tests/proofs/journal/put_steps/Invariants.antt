use Rattle.std.proofs.Common.{map, take}
use Rattle.ips_folder.specs.Memory.{mem_folder}
use Rattle.ips_steps.specs.View.{step_of}
use Rattle.ips_journal.specs.Writing.{IsWritten}
use Rattle.ips_folder_tests.proofs.journal.put_steps.Given as goal

abbrev pub invariant-loop-step : goal.invariant-loop-step
invariant-loop-step g l = IsWritten l.writer (mem_folder.state l.folder).held (map step_of (take l.step-index l.steps))
