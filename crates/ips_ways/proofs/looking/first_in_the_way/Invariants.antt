use Rattle.std.proofs.Common.{◌<◌, IsTrue, IfSome, length}
use Rattle.ips_outside.specs.Children.{path_bytes}
use Rattle.ips_outside.specs.Outside.{Reads}
use Rattle.ips_ways.proofs.First.{IsFirstOf}
use Rattle.ips_ways.proofs.looking.first_in_the_way.Given as goal

abbrev pub invariant-loop-place : goal.invariant-loop-place
invariant-loop-place g l = record {
  reads : Reads g.S.Source.outside l.fn.source l.source ⊥;
  within : IfSome l.first (λ at. at < length l.paths);
  first : IsTrue (g.S.Source.outside.tells l.fn.source) → IsFirstOf (g.S.Source.outside.state l.fn.source).held (path_bytes l.paths) l.place l.first;
}
