use Rattle.std.proofs.Common.{◌≡◌, true, take}
use Rattle.std.specs.List.{All}
use Rattle.ips_outside.specs.Outside.{Reads}
use Rattle.ips_outside.specs.Tearing.{in_set}
use Rattle.ips_rehearse.specs.Tried.{KeepsModes}
use Rattle.ips_rehearse.proofs.Going.{AllMet}
use Rattle.ips_rehearse.proofs.standing.add_going.Given as goal

abbrev pub invariant-loop-step : goal.invariant-loop-step
invariant-loop-step g l = record {
  kept : KeepsModes l.fn.modes.has l.modes.has;
  reads : Reads g.F.Source.outside l.fn.folder l.folder ⊥;
  found : g.F.Source.outside.tells l.fn.folder ≡ true → All (AllMet (g.F.Source.outside.state l.fn.folder).held (in_set l.made) l.modes.has l.left.items) (take l.step-index l.steps);
}
