use Rattle.std.proofs.Common.{◌≡◌, false, take}
use Rattle.std.specs.List.{list_any}
use Rattle.ips_depend.specs.Selection.{is_present}
use Rattle.ips_depend.proofs.holding.is_any_present.Given as goal

abbrev pub invariant-loop-place : goal.invariant-loop-place
invariant-loop-place g l = list_any (is_present (g.V.Places.selection l.view)) (take l.place l.fmris) ≡ false
