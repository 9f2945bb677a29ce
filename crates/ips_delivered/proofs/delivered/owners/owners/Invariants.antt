use Rattle.std.proofs.Common.{ℕ, List, take}
use Rattle.std.specs.Prelude.{IfSome}
use Rattle.ips_delivered.specs.delivered.Kept.{AreOwners, owner_at}
use Rattle.ips_delivered.proofs.delivered.Owning.{HasOwnPath}
use Rattle.ips_delivered.proofs.delivered.owners.owners.Given as goal

abbrev pub invariant-loop-item : goal.invariant-loop-item
invariant-loop-item l = record {
  owners : AreOwners (take l.item-index l.admitted) l.owners;
  proper : (path : List ℕ) → IfSome (owner_at l.owners path) (HasOwnPath path);
}
