use Rattle.std.proofs.Common.{◌≡◌, ◌≤◌, ℕ, List, None, IsTrue, take}
use Rattle.std.specs.List.{list_any}
use Rattle.ips_text.specs.Ancestry.{covers}
use Rattle.ips_text.specs.Kept.{Kept}
use Rattle.ips_outside.specs.State.{nowhere}
use Rattle.ips_folder.specs.Calls.{ChangesOnly}
use Rattle.ips_steps.specs.Private.{mark_front, begins}
use Rattle.ips_rehearse.specs.Tried.{Passed}
use Rattle.ips_commit.proofs.sweeping.remove_all.Given as goal

abbrev pub invariant-loop-mark : goal.invariant-loop-mark
invariant-loop-mark g l = record {
  kind : g.F.Source.outside.tells l.folder ≡ g.F.Source.outside.tells l.fn.folder;
  faults : g.F.Source.outside.faults l.folder ≡ g.F.Source.outside.faults l.fn.folder;
  changes : g.F.Source.outside.changes l.fn.folder ≤ g.F.Source.outside.changes l.folder;
  gone : IsTrue (g.F.Source.outside.tells l.fn.folder) → (q : List ℕ) → IsTrue (list_any (λ (k : Kept). covers k.bytes q) (take l.mark-index l.marks)) → (g.F.Source.outside.state l.folder).held.look q ≡ None;
  nothing_new : IsTrue (g.F.Source.outside.tells l.fn.folder) → (q : List ℕ) → (g.F.Source.outside.state l.fn.folder).held.look q ≡ None → (g.F.Source.outside.state l.folder).held.look q ≡ None;
  moments : IsTrue (g.F.Source.outside.tells l.fn.folder) → ChangesOnly g.F.Source.outside (begins mark_front) nowhere l.fn.folder l.folder;
  passed : Passed g.F.Source.outside l.fn.folder l.folder;
}
