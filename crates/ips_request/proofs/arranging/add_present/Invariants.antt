use Rattle.std.proofs.Common.{◌≡◌, ◌++◌, take}
use Rattle.ips_request.specs.Candidates.{present}
use Rattle.ips_request.specs.Reads.{is_gone_at}
use Rattle.ips_request.proofs.arranging.add_present.Given as goal

abbrev pub invariant-loop-number : goal.invariant-loop-number
invariant-loop-number l = l.out.items ≡ l.initial.out.items ++ present (is_gone_at l.reads) (take l.number-index l.numbers)
