use Rattle.std.proofs.Common.{map}
use Rattle.ips_index.proofs.Listed.{AreListed}
use Rattle.ips_index.proofs.sets.by_stem.Given as goal

abbrev pub invariant-loop-row : goal.invariant-loop-row
invariant-loop-row l = AreListed (map (λ b. b.now) l.yielded) l.stems
