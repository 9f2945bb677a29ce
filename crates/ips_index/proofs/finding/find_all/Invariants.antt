use Rattle.std.proofs.Common.{map}
use Rattle.std.specs.Str.{chars}
use Rattle.ips_fmri.specs.Pattern.{Matches}
use Rattle.ips_index.specs.Rows.{row_seen}
use Rattle.ips_index.proofs.Picked.{Picks}
use Rattle.ips_index.proofs.finding.find_all.Given as goal

abbrev pub invariant-loop-row : goal.invariant-loop-row
invariant-loop-row l = Picks (λ row. Matches (chars l.pattern) (chars row.token)) (map (λ b. b.now) l.yielded) (map row_seen l.found.items)
