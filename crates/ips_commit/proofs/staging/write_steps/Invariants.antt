use Rattle.std.proofs.Common.{◌≡◌, ◌≤◌, IsTrue, map, take}
use Rattle.ips_text.specs.Ancestry.{covers}
use Rattle.ips_outside.specs.State.{nowhere}
use Rattle.ips_folder.specs.Calls.{ChangesOnly}
use Rattle.ips_steps.specs.Private.{journal_name}
use Rattle.ips_steps.specs.View.{step_of}
use Rattle.ips_journal.specs.Writing.{IsWritten, KeepsTouched}
use Rattle.ips_commit.proofs.staging.write_steps.Given as goal

abbrev pub invariant-loop-step : goal.invariant-loop-step
invariant-loop-step g l = record {
  kind : g.F.Source.outside.tells l.folder ≡ g.F.Source.outside.tells l.fn.folder;
  faults : g.F.Source.outside.faults l.folder ≡ g.F.Source.outside.faults l.fn.folder;
  changes : g.F.Source.outside.changes l.fn.folder ≤ g.F.Source.outside.changes l.folder;
  written : IsTrue (g.F.Source.outside.tells l.fn.folder) → IsWritten l.writer (g.F.Source.outside.state l.folder).held (map step_of (take l.step-index l.steps));
  touched : IsTrue (g.F.Source.outside.tells l.fn.folder) → KeepsTouched (g.F.Source.outside.state l.fn.folder) (g.F.Source.outside.state l.folder);
  moments : IsTrue (g.F.Source.outside.tells l.fn.folder) → ChangesOnly g.F.Source.outside (covers journal_name) nowhere l.fn.folder l.folder;
}
