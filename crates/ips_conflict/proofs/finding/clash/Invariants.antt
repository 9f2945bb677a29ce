use Rattle.ips_conflict.proofs.FirstOver.{IsLeft}
use Rattle.ips_conflict.proofs.finding.clash.Given as goal

abbrev pub invariant-loop-text : goal.invariant-loop-text
invariant-loop-text l = IsLeft l.placed l.text-iterator
