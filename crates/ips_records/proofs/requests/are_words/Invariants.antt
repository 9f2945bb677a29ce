use Rattle.std.proofs.Common.{◌↔◌, ℕ, length}
use Rattle.ips_records.specs.Form.{AreWords}
use Rattle.ips_records.proofs.requests.are_words.Given as goal

abbrev pub invariant-loop-first : goal.invariant-loop-first
invariant-loop-first l = AreWords l.fn.bytes ↔ AreWords l.rest

abbrev pub decreases-loop-first : goal.decreases-loop-first
decreases-loop-first l = length l.rest
