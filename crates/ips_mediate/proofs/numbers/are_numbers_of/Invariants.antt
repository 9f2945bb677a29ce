use Rattle.std.proofs.Common.{◌≡◌, ◌++◌, take}
use Rattle.ips_mediate.specs.Mediation.{numbers_of}
use Rattle.ips_mediate.proofs.Numerals.{behind, AllBehind}
use Rattle.ips_mediate.proofs.numbers.are_numbers_of.Given as goal

abbrev pub invariant-loop-number : goal.invariant-loop-number
invariant-loop-number l = record {
  so_far : numbers_of l.text ≡ take l.number-index l.numbers ++ behind l.left;
  numbers : AllBehind l.left;
}
