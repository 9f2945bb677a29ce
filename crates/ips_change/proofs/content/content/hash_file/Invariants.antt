use Rattle.std.proofs.Common.{◌≡◌, ◌≤◌, ◌-◌, IsTrue, take}
use Rattle.ips_outside.specs.Outside.{Reads, readable}
use Rattle.ips_change.proofs.content.content.hash_file.Given as goal

abbrev pub invariant-loop-at : goal.invariant-loop-at
invariant-loop-at g l = record {
  within : l.at ≤ l.size;
  algorithm : l.hasher.algorithm ≡ l.fn.hasher.algorithm;
  reads : Reads g.S.Source.outside l.fn.source l.source ⊥;
  found : IsTrue (g.S.Source.outside.tells l.fn.source) → l.hasher.bytes ≡ take l.at (readable ((g.S.Source.outside.state l.fn.source).held.look l.path.bytes));
}

abbrev pub decreases-loop-at : goal.decreases-loop-at
decreases-loop-at g l = l.size - l.at
