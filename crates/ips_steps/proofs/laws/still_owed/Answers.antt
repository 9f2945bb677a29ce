use Rattle.ips_steps.proofs.Owing as owing
use Rattle.ips_steps.proofs.Unmarking.{owes_unmarking}
use Rattle.ips_steps.proofs.laws.still_owed.Goals as goal

pub returns : goal.returns
returns c = record {
  laying = λ text steps marks b a due old s o formed clean w. owing.owes_laying text steps marks a b due old s o (record { self = formed.self }) clean w;
  opening = λ text steps marks a old s r formed clean w. owing.owes_opening text steps marks a old s r (record { self = formed.self }) clean w;
  closing = λ text steps marks b a due old s r formed clean done w. owing.owes_closing text steps marks a old s r (record { self = formed.self }) clean w b due done;
  marking = λ text steps marks b a due old s o formed clean few can means bare w. owing.owes_marking text steps marks a b due old s o (record { self = formed.self }) clean few can means bare w;
  unmarking = owes_unmarking;
  sweeping = owing.owes_sweeping;
}
