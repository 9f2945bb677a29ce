use Rattle.std.proofs.Common.{◌≡◌, filter, take}
use Rattle.ips_request.specs.Reads.{is_same, stands_at}
use Rattle.ips_request.proofs.arranging.those.Given as goal

abbrev pub invariant-loop-number : goal.invariant-loop-number
invariant-loop-number l = l.out.items ≡ filter (λ x. is_same (stands_at l.reads x) l.standing) (take l.number-index l.numbers)
