use Rattle.std.proofs.Common.{◌≡◌, ◌⊎◌, ℕ, Bool, true, List, Some}
use Rattle.ips_outside.specs.Children.{is_child}
use Rattle.ips_outside.specs.Image.{Dir}
use Rattle.ips_outside.specs.Outside.{Reads}
use Rattle.ips_rehearse.specs.Going.{is_under}
use Rattle.ips_rehearse.specs.Tried.{in_modes, KeepsModes}
use Rattle.ips_rehearse.proofs.standing.walk.Given as goal

abbrev pub invariant-loop-turn : goal.invariant-loop-turn
invariant-loop-turn g l = record {
  kept : KeepsModes l.fn.modes.has l.modes.has;
  reads : Reads g.F.Source.outside l.fn.folder l.folder ⊥;
  found : g.F.Source.outside.tells l.fn.folder ≡ true → (d : List ℕ) (m : ℕ) (f : Bool) (q : List ℕ) → is_under l.fn.left.items d ≡ true → (g.F.Source.outside.state l.fn.folder).held.look d ≡ Some (Dir m f)
      → is_child (g.F.Source.outside.state l.fn.folder).held d q ≡ true → (in_modes l.modes.has m ≡ true) ⊎ (is_under l.left.items d ≡ true);
}
