use Rattle.std.proofs.Common.{◌≡◌, ℕ, ◌||◌, List, take}
use Rattle.ips_request.specs.Named.{listed_stems}
use Rattle.ips_request.specs.Stems.{has}
use Rattle.ips_request.proofs.known.add_stems.Given as goal

abbrev pub invariant-loop-number : goal.invariant-loop-number
invariant-loop-number l = (stem : List ℕ) → has stem l.known.keys ≡ (has stem (listed_stems (take l.number l.catalog)) || has stem l.initial.known.keys)
