use Rattle.std.specs.Prelude.{◌≡◌, true, IsTrue, IfSome}
use Rattle.ips_text.specs.Ancestry.{is_below}
use Rattle.ips_text.specs.Path.{IsPath}
use Rattle.ips_outside.specs.Outside.{Reads}
use Rattle.ips_conflict.proofs.Marked.{height}
use Rattle.ips_aside.proofs.Above.{AreLeft}
use Rattle.ips_aside.proofs.ways.standing_above.Given as goal

abbrev pub invariant-loop-at : goal.invariant-loop-at
invariant-loop-at g l = record {
  reads : Reads g.S.Source.outside l.fn.source l.source ⊥;
  path : IfSome l.at (λ d. IsPath d.now);
  up : IfSome l.at (λ d. is_below d.now l.root.bytes ≡ true);
  so_far : IsTrue (g.S.Source.outside.tells l.fn.source) → AreLeft (g.S.Source.outside.state l.fn.source).held l.root.bytes l.at;
}

abbrev pub decreases-loop-at : goal.decreases-loop-at
decreases-loop-at g l = height l.at
