use Rattle.std.proofs.Common.{◌≡◌, ℕ, ◌+◌, ◌<◌, None, IsTrue}
use Rattle.ips_outside.specs.Outside.{Reads}
use Rattle.ips_steps.specs.Private.{mark_name}
use Rattle.ips_commit.proofs.placing.count_marks.Given as goal

abbrev pub invariant-loop-count : goal.invariant-loop-count
invariant-loop-count g l = record {
  reads : Reads g.F.Source.outside l.fn.folder l.folder ⊥;
  stand : IsTrue (g.F.Source.outside.tells l.fn.folder) → (i : ℕ) → i < l.count → (g.F.Source.outside.state l.fn.folder).held.look (mark_name (i + 1)) ≡ None → ⊥;
}
