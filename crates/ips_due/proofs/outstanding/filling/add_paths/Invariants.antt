use Rattle.std.proofs.Common.{ℕ, IsTrue, List, map, take}
use Rattle.ips_outside.specs.Outside.{Reads}
use Rattle.ips_due.specs.Due.{Due}
use Rattle.ips_due.specs.outstanding.Noted.{Adds, AreMarked}
use Rattle.ips_due.specs.outstanding.Verdicts.{role_said}
use Rattle.ips_due.proofs.outstanding.filling.add_paths.Given as goal

abbrev pub invariant-loop-i : goal.invariant-loop-i
invariant-loop-i g l = record {
  marked : AreMarked l.notes;
  reads : Reads g.S.Source.outside l.fn.source l.source ⊥;
  so_far : IsTrue (g.S.Source.outside.tells l.fn.source) → (bytes : List ℕ → List ℕ) (due : Due) → Adds bytes due l.fn.notes l.notes (map (λ p. p.bytes) (take l.i l.paths)) (λ q. role_said l.role ((g.S.Source.outside.state l.fn.source).held.look q));
}
