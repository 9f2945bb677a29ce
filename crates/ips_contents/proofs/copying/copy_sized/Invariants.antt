use Rattle.std.proofs.Common.{◌≤◌, ◌-◌}
use Rattle.ips_contents.proofs.Copies.{Copied}
use Rattle.ips_contents.proofs.copying.copy_sized.Given as goal

abbrev pub invariant-loop-at : goal.invariant-loop-at
invariant-loop-at g l = (l.at ≤ l.size) × Copied g.F.Source.outside l.path.bytes l.from.bytes l.fn.folder l.folder l.at

abbrev pub decreases-loop-at : goal.decreases-loop-at
decreases-loop-at g l = l.size - l.at
