use Rattle.std.proofs.Common.{◌≡◌, drop}
use Rattle.std.specs.Prelude.{IfSome, option_map}
use Rattle.ips_text.specs.Path.{IsPath}
use Rattle.ips_delivered.specs.delivered.Delivering.{first_unknown, least_unknown}
use Rattle.ips_delivered.specs.delivered.Kept.{missing_told}
use Rattle.ips_delivered.proofs.delivered.unknown.first_unknown.Given as goal

abbrev pub invariant-loop-item : goal.invariant-loop-item
invariant-loop-item l = record {
  rest : least_unknown l.accounts (option_map missing_told l.least) (drop l.item-index l.admitted) ≡ first_unknown l.accounts l.admitted;
  proper : IfSome l.least (λ m. IsPath m.path.now);
}
