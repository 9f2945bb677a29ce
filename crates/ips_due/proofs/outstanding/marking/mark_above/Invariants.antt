use Rattle.ips_conflict.specs.Index.{has_path}
use Rattle.ips_conflict.proofs.Marked.{MarkingTo, height}
use Rattle.ips_due.proofs.outstanding.marking.mark_above.Given as goal

abbrev pub invariant-loop-at : goal.invariant-loop-at
invariant-loop-at l = MarkingTo (has_path l.initial.keys) (has_path l.keys) l.path l.at

abbrev pub decreases-loop-at : goal.decreases-loop-at
decreases-loop-at l = height l.at
