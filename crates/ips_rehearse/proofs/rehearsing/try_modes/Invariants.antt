use Rattle.std.proofs.Common.{◌≡◌, ◌≤◌, IsTrue}
use Rattle.ips_rehearse.proofs.Passing.{ModesBelow}
use Rattle.ips_text.specs.Ancestry.{is_below}
use Rattle.ips_folder.specs.Calls.{ChangesOnly}
use Rattle.ips_rehearse.specs.Tried.{try_name, IsEmptyDir, Passed}
use Rattle.ips_rehearse.proofs.rehearsing.try_modes.Given as goal

abbrev pub invariant-loop-mode : goal.invariant-loop-mode
invariant-loop-mode g l = record {
  path : 1023 ≤ l.path.room;
  other : 1023 ≤ l.other.room;
  kind : g.F.Source.outside.tells l.folder ≡ g.F.Source.outside.tells l.fn.folder;
  faults : g.F.Source.outside.faults l.folder ≡ g.F.Source.outside.faults l.fn.folder;
  changes : g.F.Source.outside.changes l.fn.folder ≤ g.F.Source.outside.changes l.folder;
  empty : IsTrue (g.F.Source.outside.tells l.fn.folder) → IsEmptyDir try_name (g.F.Source.outside.state l.folder).held;
  moments : IsTrue (g.F.Source.outside.tells l.fn.folder) → ChangesOnly g.F.Source.outside (is_below try_name) (is_below try_name) l.fn.folder l.folder;
  seen : IsTrue (g.F.Source.outside.tells l.fn.folder) → Passed g.F.Source.outside l.fn.folder l.folder × ModesBelow g.F.Source.outside l.fn.folder l.folder l.modes.worked.has l.modes.dirs.has l.modes.files.has l.mode;
}
