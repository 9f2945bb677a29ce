use Rattle.ips_steps.proofs.Owing as owing
use Rattle.ips_steps.proofs.Unmarking.{open_unmarked}
use Rattle.ips_steps.proofs.laws.still_ready.Goals as goal

pub returns : goal.returns
returns c = record {
  opening = λ text steps marks a t u r formed h. owing.gate_ready text steps marks a t u r (record { self = formed.self }) h;
  laying = λ text steps marks a t u o formed h. owing.open_laying text steps marks a t u o (record { self = formed.self }) h;
  thousand = owing.thousand_laid;
  marking = λ text steps marks a t u o formed few can means bare h there. owing.open_marked text steps marks a t o (record { self = formed.self }) few can means bare u h there;
  unmarking = open_unmarked;
}
