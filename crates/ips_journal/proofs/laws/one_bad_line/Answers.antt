use Rattle.ips_journal.proofs.JournalLaws.{one_line}
use Rattle.ips_journal.proofs.laws.one_bad_line.Goals as goal

pub returns : goal.returns
returns c = one_line
