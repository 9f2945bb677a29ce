use Rattle.std.proofs.Common.{◌<◌, ℕ, IsTrue, None}
use Rattle.std.specs.Prelude.{◌≢◌}
use Rattle.ips_outside.specs.Outside.{Reads}
use Rattle.ips_after.specs.Salvage.{root_name}
use Rattle.ips_aside.proofs.lost_and_found.root.salvage_root.Given as goal

abbrev pub invariant-loop-number : goal.invariant-loop-number
invariant-loop-number g l = record {
  reads : Reads g.S.Source.outside l.fn.source l.source ⊥;
  taken : IsTrue (g.S.Source.outside.tells l.fn.source) → (k : ℕ) → k < l.number → (g.S.Source.outside.state l.fn.source).held.look (root_name l.moment k) ≢ None;
}
