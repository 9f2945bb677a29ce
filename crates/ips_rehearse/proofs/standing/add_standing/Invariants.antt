use Rattle.std.proofs.Common.{◌≡◌, ◌≤◌, ◌⊎◌, ℕ, Bool, true, List, Some}
use Rattle.ips_outside.specs.Image.{Dir}
use Rattle.ips_outside.specs.Outside.{Reads}
use Rattle.ips_outside.specs.Tearing.{in_set}
use Rattle.ips_folder.proofs.Junks.{in_list}
use Rattle.ips_rehearse.specs.Tried.{in_modes, KeepsModes}
use Rattle.ips_rehearse.proofs.standing.add_standing.Given as goal

abbrev pub invariant-loop-dir : goal.invariant-loop-dir
invariant-loop-dir g l = record {
  room : 1023 ≤ l.path.room;
  kept : KeepsModes l.fn.modes.has l.modes.has;
  reads : Reads g.F.Source.outside l.fn.folder l.folder ⊥;
  found : g.F.Source.outside.tells l.fn.folder ≡ true → (q : List ℕ) (m : ℕ) (f : Bool) → in_set l.first q ≡ true
      → (g.F.Source.outside.state l.fn.folder).held.look q ≡ Some (Dir m f) → (in_modes l.modes.has m ≡ true) ⊎ (in_list l.dir-iterator q ≡ true);
}
