use Rattle.std.proofs.Common.{◌≡◌, false, take}
use Rattle.std.specs.List.{list_any}
use Rattle.ips_prepare.proofs.Sizes.{is_of}
use Rattle.ips_prepare.proofs.limits.lists.Given as goal

abbrev pub invariant-loop-place : goal.invariant-loop-place
invariant-loop-place l = list_any (is_of l.stem) (take l.place l.catalog) ≡ false
