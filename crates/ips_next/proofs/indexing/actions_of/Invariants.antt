use Rattle.std.proofs.Common.{◌≡◌, map, take}
use Rattle.ips_manifest.specs.declared.line.Line.{Line}
use Rattle.ips_next.proofs.indexing.actions_of.Given as goal

abbrev pub invariant-loop-line : goal.invariant-loop-line
invariant-loop-line l = l.actions.items ≡ map (λ (x : Line). x.action) (take l.line-index l.lines)
