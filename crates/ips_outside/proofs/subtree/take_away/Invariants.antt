use Rattle.std.proofs.Common.{◌≡◌, ◌≤◌, ℕ, List, IsTrue, IsFalse, length, is_some, vec_capacity}
use Rattle.ips_text.specs.Ancestry.{is_below}
use Rattle.ips_outside.specs.Table.{kind_at}
use Rattle.ips_outside.specs.Order.{comes_after, front_below}
use Rattle.ips_outside.proofs.subtree.take_away.Given as goal

abbrev pub invariant-loop-next : goal.invariant-loop-next
invariant-loop-next l = record {
  others : (q : List ℕ) → IsFalse (is_below l.path q) → kind_at l.paths.entries q ≡ kind_at l.fn.paths.entries q;
  each : (q : List ℕ) → IsTrue (is_some (kind_at l.paths.entries q)) → length q ≤ vec_capacity l.spare;
  begun : IsFalse (comes_after (front_below l.path) l.spare.items);
  left : (q : List ℕ) → IsTrue (is_below l.path q) → IsTrue (is_some (kind_at l.paths.entries q)) → IsFalse (comes_after l.spare.items q);
  grows : vec_capacity l.fn.spare ≤ vec_capacity l.spare;
}

abbrev pub decreases-loop-next : goal.decreases-loop-next
decreases-loop-next l = length l.paths.entries
