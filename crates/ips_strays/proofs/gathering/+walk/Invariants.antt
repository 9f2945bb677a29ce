use Rattle.std.proofs.Common.{IsTrue, ◌+◌, ◌-◌, ◌*◌, length}
use Rattle.ips_outside.specs.Outside.{Reads}
use Rattle.ips_strays.specs.Strays.{Adds}
use Rattle.ips_strays.proofs.Gathered.{first_of, self_or_among}
use Rattle.ips_strays.proofs.gathering.+walk.Given as goal

-- a child's path is longer, and no path has more than 1,023 bytes
abbrev pub decreases-gather : goal.decreases-gather
decreases-gather g l = 2 * (1024 - length l.path.now.bytes) + 1

abbrev pub decreases-gather_dir : goal.decreases-gather_dir
decreases-gather_dir g l = 2 * (1024 - length l.dir.now.bytes)

abbrev pub invariant-gather_dir-loop-child : goal.invariant-gather_dir-loop-child
invariant-gather_dir-loop-child g l = record {
  reads : Reads g.F.Source.outside l.fn.folder l.folder ⊥;
  so_far : IsTrue (g.F.Source.outside.tells l.fn.folder) → Adds (g.F.Source.outside.state l.fn.folder).held (self_or_among l.dir.bytes (first_of l.children l.child-index)) l.fn.strays.items l.strays.items;
}
