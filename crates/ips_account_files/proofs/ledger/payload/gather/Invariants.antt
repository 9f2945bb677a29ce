use Rattle.std.proofs.Common.{◌≡◌, ◌≤◌, ◌-◌, IsTrue, length}
use Rattle.ips_outside.specs.Outside.{Reads}
use Rattle.ips_repo.specs.Payload.{IsFrontOf}
use Rattle.ips_account_files.specs.ledger.Texts.{account_limit}
use Rattle.ips_account_files.proofs.ledger.payload.gather.Given as goal

abbrev pub invariant-loop-more : goal.invariant-loop-more
invariant-loop-more g l = record {
  named : l.payload.name ≡ l.fn.payload.name;
  placed : l.payload.place ≡ l.fn.payload.place;
  sized : l.payload.size ≡ l.fn.payload.size;
  reads : Reads g.S.Source.outside l.fn.source l.source ⊥;
  front : IsTrue (g.S.Source.outside.tells l.fn.source) → IsFrontOf (g.S.Source.outside.state l.fn.source).held l.fn.payload → IsFrontOf (g.S.Source.outside.state l.fn.source).held l.payload;
  counted : l.count ≡ length l.payload.bytes;
  within : l.count ≤ l.payload.size;
  kept : l.count ≤ account_limit → l.bytes.items ≡ l.payload.bytes;
}

abbrev pub decreases-loop-more : goal.decreases-loop-more
decreases-loop-more g l = l.payload.size - length l.payload.bytes
