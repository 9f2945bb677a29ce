use Rattle.ips_meaning.proofs.Wants.{Made, seen_paths}
use Rattle.ips_meaning.proofs.wanted.entries.Given as goal

abbrev pub invariant-loop-path : goal.invariant-loop-path
invariant-loop-path l = Made l.kept (seen_paths l.yielded) l.entries.items
