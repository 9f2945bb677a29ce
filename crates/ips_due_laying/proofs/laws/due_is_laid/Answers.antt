use Rattle.ips_due_laying.proofs.LaidDue.{lays_due, lays_nothing}
use Rattle.ips_due_laying.proofs.laws.due_is_laid.Goals as goal

pub returns : goal.returns
returns c = record {
  laid = λ bytes due t o named out of. lays_due bytes due t o named out of;
  nothing = λ bytes due t o named out of. lays_nothing bytes due t o named out of;
}
