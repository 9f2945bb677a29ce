use Rattle.std.proofs.Common.{IsTrue, length}
use Rattle.ips_text.specs.Ancestry.{covers, is_below}
use Rattle.ips_outside.proofs.listing.child_above.Given as goal

abbrev pub invariant-loop-above : goal.invariant-loop-above
invariant-loop-above l = record {
  above : IsTrue (covers l.child l.path);
  below : IsTrue (is_below l.dir l.child);
}

abbrev pub decreases-loop-above : goal.decreases-loop-above
decreases-loop-above l = length l.child
