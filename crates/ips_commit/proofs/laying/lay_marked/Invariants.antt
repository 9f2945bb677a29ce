use Rattle.ips_kinds.specs.Tallies.{seen_by}
use Rattle.ips_commit.proofs.Going.{Going}
use Rattle.ips_commit.proofs.laying.lay_marked.Given as goal
use Rattle.std.proofs.Common.{◌≤◌}

abbrev pub invariant-loop-turn : goal.invariant-loop-turn
invariant-loop-turn g l = record {
  going : Going g.F.Source.outside l.first l.turn l.fn.folder l.folder l.fn.reader l.reader
      (seen_by (λ k. (goal.Kind-dyn g (k.vtable, k.value)).sorts k.value) (λ k. (goal.Kind-dyn g (k.vtable, k.value)).finished k.value) l.fn.kinds.items)
      (seen_by (λ k. (goal.Kind-dyn g (k.vtable, k.value)).sorts k.value) (λ k. (goal.Kind-dyn g (k.vtable, k.value)).finished k.value) l.kinds.items);
  path : 1023 ≤ l.mark.room;
}
