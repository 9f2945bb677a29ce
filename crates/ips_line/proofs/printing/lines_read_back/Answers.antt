use Rattle.ips_line.proofs.Spelled.{one_line, reads_back}
use Rattle.ips_line.proofs.printing.lines_read_back.Goals as goal

pub returns-clause-one : goal.returns-clause-one
returns-clause-one c = one_line

pub returns-clause-back : goal.returns-clause-back
returns-clause-back c = reads_back
