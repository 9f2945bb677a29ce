use Rattle.std.proofs.Common.{subst, sym}
use Rattle.ips_state.specs.Lawful.{IsLawful}
use Rattle.ips_state.specs.State.{recorded}
use Rattle.ips_asked.specs.Requested.{kind_asked}
use Rattle.ips_next.proofs.Recorded.{over_lawful}
use Rattle.ips_next.proofs.deciding.decided_over.Goals as goal

pub returns-in-Err-Bad-clause-early : goal.returns-in-Err-Bad-clause-early
returns-in-Err-Bad-clause-early g c = rw c.in-Err-Bad.field-0-is (rw c.in-Err-Bad.field-0-is at (c.in-Err-Bad.ensures.early (kind_asked c.args.what.now) (sym c.requires.repository)))

pub pose-requires-clause-lawful : goal.pose-requires-clause-lawful
pose-requires-clause-lawful g c = subst IsLawful (sym c.chosen_over-over.ensures) (over_lawful c.args.what.now (recorded c.args.old.now) (recorded c.args.asked.now) c.requires.can.old c.requires.can.asked)
