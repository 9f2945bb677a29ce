use Rattle.std.proofs.Common.{◌≡◌, ◌<◌, ℕ}
use Rattle.ips_cases.specs.Cases.{meeting}
use Rattle.ips_cases.specs.Numbering.{key_at}
use Rattle.ips_cases.proofs.table.Cases.new.Given as goal

-- each key of a number so far is met by just one row
abbrev pub invariant-loop-number : goal.invariant-loop-number
invariant-loop-number g l = (n : ℕ) → n < l.number → meeting l.rows (key_at l.sizes n) ≡ 1
