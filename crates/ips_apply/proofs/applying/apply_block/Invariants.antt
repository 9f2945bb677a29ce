use Rattle.std.proofs.Common.{◌-◌, ◌≤◌, IsTrue}
use Rattle.ips_kinds.specs.Tallies.{seen_by}
use Rattle.ips_apply.specs.Judging.{IsKnown}
use Rattle.ips_apply.proofs.Going.{Going}
use Rattle.ips_apply.proofs.applying.apply_block.Given as goal

abbrev pub invariant-loop-count : goal.invariant-loop-count
invariant-loop-count g l = record {
  going : Going g.F.Source.outside l.fn.folder l.folder l.fn.reader l.reader
      (seen_by (λ k. (goal.Kind-dyn g (k.vtable, k.value)).sorts k.value) (λ k. (goal.Kind-dyn g (k.vtable, k.value)).finished k.value) l.fn.kinds.items)
      (seen_by (λ k. (goal.Kind-dyn g (k.vtable, k.value)).sorts k.value) (λ k. (goal.Kind-dyn g (k.vtable, k.value)).finished k.value) l.kinds.items)
      l.count;
  few : l.count ≤ l.most;
  known : IsTrue (g.F.Source.outside.tells l.folder) → IsKnown (g.F.Source.outside.state l.folder).held l.known;
}

abbrev pub decreases-loop-count : goal.decreases-loop-count
decreases-loop-count g l = l.most - l.count
