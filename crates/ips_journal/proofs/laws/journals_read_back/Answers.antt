use Rattle.ips_journal.proofs.JournalLaws.{one_text, none_bad}
use Rattle.ips_journal.proofs.laws.journals_read_back.Goals as goal

pub returns : goal.returns
returns c = record { one = one_text; none_bad = λ steps line h. none_bad steps line h }
