use Rattle.ips_journal.proofs.JournalLaws.{in_order}
use Rattle.ips_journal.proofs.laws.steps_come_in_order.Goals as goal

pub returns : goal.returns
returns c = record {
  within = λ steps front r h at. (in_order steps front r h at).0;
  front = λ steps front r h at. (in_order steps front r h at).1;
}
