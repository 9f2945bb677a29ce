use Rattle.std.proofs.Common.{◌≡◌, ◌≤◌, ◌-◌, IsTrue, take, length}
use Rattle.ips_outside.specs.Outside.{Reads, readable}
use Rattle.ips_due.proofs.outstanding.bytes.has_bytes.Given as goal

abbrev pub invariant-loop-at : goal.invariant-loop-at
invariant-loop-at g l = record {
  within : l.at ≤ length l.bytes;
  room : length l.buffer ≡ length l.fn.buffer;
  reads : Reads g.S.Source.outside l.fn.source l.source ⊥;
  same : IsTrue (g.S.Source.outside.tells l.fn.source) → take l.at l.bytes ≡ take l.at (readable ((g.S.Source.outside.state l.fn.source).held.look l.path.bytes));
}

abbrev pub decreases-loop-at : goal.decreases-loop-at
decreases-loop-at g l = length l.bytes - l.at
