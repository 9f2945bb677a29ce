use Rattle.std.proofs.Common.{◌≡◌, ◌≤◌, ℕ, List, IsTrue, IsFalse, take}
use Rattle.ips_outside.specs.Children.{path_bytes}
use Rattle.ips_outside.specs.State.{nowhere}
use Rattle.ips_outside.specs.Outside.{Elapses}
use Rattle.ips_folder.specs.Calls.{ChangesOnly}
use Rattle.ips_ways.specs.Ways.{HasBegun, any_missing, gives_way, is_missing, with_dirs}
use Rattle.ips_ways.proofs.making.make_directories.Given as goal

abbrev pub invariant-loop-path : goal.invariant-loop-path
invariant-loop-path g l = record {
  kind : g.F.Source.outside.tells l.folder ≡ g.F.Source.outside.tells l.fn.folder;
  faults : g.F.Source.outside.faults l.folder ≡ g.F.Source.outside.faults l.fn.folder;
  changes : g.F.Source.outside.changes l.fn.folder ≤ g.F.Source.outside.changes l.folder;
  begun : HasBegun (g.F.Source.outside.changes l.fn.folder) (g.F.Source.outside.changes l.folder) l.made;
  kept : IsFalse l.made → g.F.Source.outside.state l.folder ≡ g.F.Source.outside.state l.fn.folder;
  still : IsFalse l.made → Elapses g.F.Source.outside l.fn.folder l.folder;
  missing : IsTrue (g.F.Source.outside.tells l.fn.folder) → IsTrue l.made → IsTrue (any_missing (g.F.Source.outside.state l.fn.folder).held (path_bytes l.paths));
  held : IsTrue (g.F.Source.outside.tells l.fn.folder) → (g.F.Source.outside.state l.folder).held ≡ with_dirs (path_bytes (take l.path-index l.paths)) (g.F.Source.outside.state l.fn.folder).held;
  room : IsTrue (g.F.Source.outside.tells l.fn.folder) → (q : List ℕ) → IsTrue (gives_way q ((g.F.Source.outside.state l.folder).held.look q)) → IsTrue (gives_way q ((g.F.Source.outside.state l.fn.folder).held.look q));
  moments : IsTrue (g.F.Source.outside.tells l.fn.folder) → ChangesOnly g.F.Source.outside (is_missing (g.F.Source.outside.state l.fn.folder).held (path_bytes l.paths)) nowhere l.fn.folder l.folder;
}
