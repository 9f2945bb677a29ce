use Rattle.std.proofs.Common.{◌≡◌, map}
use Rattle.std.specs.List.{AllByRecursion}
use Rattle.ips_index.specs.Rows.{IndexedValue, row_seen}
use Rattle.ips_index.proofs.finding.find_token.Given as goal

abbrev pub invariant-loop-row : goal.invariant-loop-row
invariant-loop-row l = (map row_seen l.found.items ≡ map (λ b. b.now) l.yielded) × AllByRecursion (λ (r : IndexedValue). r.token ≡ l.token) (map (λ b. b.now) l.yielded)
