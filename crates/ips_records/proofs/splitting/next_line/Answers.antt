use Rattle.ips_records.proofs.First.{first_some, first_clear}
use Rattle.ips_records.proofs.splitting.next_line.Goals as goal

pub returns-clause-some : goal.returns-clause-some
returns-clause-some c = first_some c.args.bytes.now c.cut.result c.cut.ensures.some

pub returns-clause-clear : goal.returns-clause-clear
returns-clause-clear c = first_clear c.args.bytes.now c.cut.result c.cut.ensures.some
