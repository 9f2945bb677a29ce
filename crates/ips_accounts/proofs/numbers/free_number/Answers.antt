use Rattle.ips_accounts.proofs.Free.{free_from_least, free_small, free_last}
use Rattle.ips_accounts.proofs.numbers.free_number.Goals as goal

pub returns-then-used-clause-number : goal.returns-then-used-clause-number
returns-then-used-clause-number c = free_small c.args.lines.now c.count_used-used.result (free_from_least c.args.lines.now c.count_used-used.result c.count_used-used.ensures.least) c.if-used.true

pub returns-else-used-clause-number : goal.returns-else-used-clause-number
returns-else-used-clause-number c = free_last c.args.lines.now c.count_used-used.result (free_from_least c.args.lines.now c.count_used-used.result c.count_used-used.ensures.least) c.if-used.false
