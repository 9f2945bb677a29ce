use Rattle.ips_steps.proofs.Laid.{laid_outcome, fits_outcome}
use Rattle.ips_steps.proofs.ByPath.{by_path}
use Rattle.ips_steps.proofs.laws.laid_by_path.Goals as goal

pub returns : goal.returns
returns c = record {
  each = λ stage steps t formed so di po. by_path stage steps t (record { self = formed.self }) so di po;
  whole = λ stage steps t formed so di po. laid_outcome stage steps t (record { self = formed.self }) so di po;
  fits = λ stage steps t formed so di fit. (fits_outcome stage steps t (record { self = formed.self }) so di fit).0;
}
