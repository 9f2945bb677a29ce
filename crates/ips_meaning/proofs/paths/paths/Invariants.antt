use Rattle.ips_meaning.proofs.Added.{WantedTo}
use Rattle.ips_meaning.proofs.Counted.{PathsTo}
use Rattle.ips_meaning.proofs.paths.paths.Given as goal

abbrev pub invariant-loop-i : goal.invariant-loop-i
invariant-loop-i l = WantedTo l.kept l.i l.paths × PathsTo l.kept l.i l.paths
