use Rattle.std.proofs.Common.{◌≡◌, true, take}
use Rattle.std.specs.List.{list_all}
use Rattle.ips_change.specs.survey.Marks.{row_paths}
use Rattle.ips_emptied.specs.Emptying.{goes_by}
use Rattle.ips_emptied.proofs.children.all_go.Given as goal

abbrev pub invariant-loop-i : goal.invariant-loop-i
invariant-loop-i l = list_all (λ child. goes_by (row_paths l.rows) l.replaced l.emptied child.bytes) (take l.i l.children) ≡ true
