use Rattle.std.proofs.Common.{◌≡◌, ◌≤◌, ◌<◌, ◌-◌, ◌^◌, IsTrue, length, drop}
use Rattle.ips_outside.specs.Outside.{Reads, readable}
use Rattle.ips_journal.proofs.LinePieces.{IsFilled}
use Rattle.ips_journal.proofs.lines.read_line.Given as goal

abbrev pub invariant-loop-filled : goal.invariant-loop-filled
invariant-loop-filled g l = record {
  size : length l.buffer ≡ length l.initial.buffer;
  within : l.filled ≤ length l.buffer;
  reads : Reads g.S.Source.outside l.fn.source l.source ⊥;
  found : IsTrue (g.S.Source.outside.tells l.fn.source) → l.place ≤ length (readable ((g.S.Source.outside.state l.fn.source).held.look l.path.bytes)) → length (readable ((g.S.Source.outside.state l.fn.source).held.look l.path.bytes)) < 2 ^ 64
      → IsFilled (drop l.place (readable ((g.S.Source.outside.state l.fn.source).held.look l.path.bytes))) l.buffer l.filled;
}

abbrev pub decreases-loop-filled : goal.decreases-loop-filled
decreases-loop-filled g l = length l.initial.buffer - l.filled
