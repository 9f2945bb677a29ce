use Rattle.std.proofs.Common.{sym, ◌∙◌}
use Rattle.ips_aside.proofs.Defined.{names_defined}
use Rattle.ips_aside.proofs.Missing.{all_ways, only_ways}
use Rattle.ips_aside.proofs.laws.asides_are_defined.Goals as goal

pub returns : goal.returns
returns c = λ r t a things sides names w are above standing same formed emptied none bare under folder. record {
  no_root = none;
  is_emptied = emptied;
  ways_only = λ q h. only_ways r t a things sides names are w above standing formed none q (sym (same q) ∙ h);
  ways_all = λ q b dir side. same q ∙ all_ways r t a things sides names are w above standing formed none bare under folder q b dir side;
  names = λ p side at lost. names_defined r t a things sides names are bare under p side at lost;
}
