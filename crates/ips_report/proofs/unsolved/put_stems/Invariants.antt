use Rattle.std.proofs.Common.{◌≡◌, ◌+◌, ◌++◌, length}
use Rattle.ips_report.specs.Report.{tried_texts}
use Rattle.ips_report.proofs.unsolved.put_stems.Given as goal

abbrev pub invariant-loop-rest : goal.invariant-loop-rest
invariant-loop-rest l = (l.out.text ++ tried_texts l.number l.rest ≡ l.initial.out.text ++ tried_texts 0 l.stems) × (l.number + length l.rest ≡ length l.stems)

abbrev pub decreases-loop-rest : goal.decreases-loop-rest
decreases-loop-rest l = length l.rest
