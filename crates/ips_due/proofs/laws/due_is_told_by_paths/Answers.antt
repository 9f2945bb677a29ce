use Rattle.ips_due.proofs.Same.{due_same, over_same, proper_same, said_same, together_same}
use Rattle.ips_due.proofs.laws.due_is_told_by_paths.Goals as goal

pub returns : goal.returns
returns c = record {
  said = λ a b same bytes holds t q. said_same a b same bytes holds t q;
  over = λ a b same bytes holds t o of. over_same a b same bytes holds t o of;
  due = λ a b same q. due_same a b same q;
  together = λ a b same is. together_same a b same is;
  proper = λ a b same proper. proper_same a b same proper;
}
