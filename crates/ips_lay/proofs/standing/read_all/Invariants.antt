use Rattle.std.proofs.Common.{◌≡◌, ◌-◌, IsTrue, length}
use Rattle.ips_outside.specs.Outside.{Reads}
use Rattle.ips_repo.specs.Payload.{IsFrontOf}
use Rattle.ips_lay.proofs.standing.read_all.Given as goal

abbrev pub invariant-loop-count : goal.invariant-loop-count
invariant-loop-count g l = record {
  named : l.payload.name ≡ l.fn.payload.name;
  placed : l.payload.place ≡ l.fn.payload.place;
  sized : l.payload.size ≡ l.fn.payload.size;
  reads : Reads g.S.Source.outside l.fn.source l.source ⊥;
  front : IsTrue (g.S.Source.outside.tells l.fn.source) → IsFrontOf (g.S.Source.outside.state l.fn.source).held l.fn.payload → IsFrontOf (g.S.Source.outside.state l.fn.source).held l.payload;
}

abbrev pub decreases-loop-count : goal.decreases-loop-count
decreases-loop-count g l = l.payload.size - length l.payload.bytes
