use Rattle.std.proofs.Common.{map, take}
use Rattle.ips_filter.specs.Admitted.{Admits}
use Rattle.ips_meaning.specs.Leaving.{LeavesMore}
use Rattle.ips_meaning.proofs.Left.{placed_by}
use Rattle.ips_delivered.proofs.delivered.admitting.add_package.Given as goal

abbrev pub invariant-loop-line : goal.invariant-loop-line
invariant-loop-line l = LeavesMore (λ p. Admits l.settings p.action.attrs) (map (placed_by l.pkg.stem) (take l.line-index l.pkg.manifest.lines.items)) l.fn.admitted.items l.admitted.items
