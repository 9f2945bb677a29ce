use Rattle.std.proofs.Common.{◌≡◌, length}
use Rattle.std.specs.List.{AllByRecursion}
use Rattle.ips_action.specs.Check.{IsNumber}
use Rattle.ips_mediate.specs.Mediation.{dotted, numbers_of}
use Rattle.ips_mediate.proofs.Numerals.{compared}
use Rattle.ips_mediate.proofs.numbers.numerals_order.Given as goal

abbrev pub invariant-loop-more : goal.invariant-loop-more
invariant-loop-more l = record {
  so_far : compared (numbers_of l.left) (numbers_of l.right) ≡ compared (numbers_of l.a) (numbers_of l.b);
  left : AllByRecursion IsNumber (dotted l.left);
  right : AllByRecursion IsNumber (dotted l.right);
}

abbrev pub decreases-loop-more : goal.decreases-loop-more
decreases-loop-more l = length (numbers_of l.left)
