use Rattle.ips_conflict.proofs.Indexed.{FilesTo}
use Rattle.ips_conflict.proofs.index.files.Given as goal

abbrev pub invariant-loop-i : goal.invariant-loop-i
invariant-loop-i l = FilesTo l.placed l.i l.files
