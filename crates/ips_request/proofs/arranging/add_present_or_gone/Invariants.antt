use Rattle.std.proofs.Common.{◌≡◌, ◌++◌, length}
use Rattle.ips_request.specs.Candidates.{present_or_gone}
use Rattle.ips_request.specs.Reads.{is_gone_at}
use Rattle.ips_request.proofs.arranging.add_present_or_gone.Given as goal

abbrev pub invariant-loop-number : goal.invariant-loop-number
invariant-loop-number l = l.out.items ++ present_or_gone (is_gone_at l.reads) l.rest ≡ l.initial.out.items ++ present_or_gone (is_gone_at l.reads) l.numbers

abbrev pub decreases-loop-number : goal.decreases-loop-number
decreases-loop-number l = length l.rest
