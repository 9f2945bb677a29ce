use Rattle.ips_delivered.proofs.delivered.Rows.{MadeRows, gone_through}
use Rattle.ips_delivered.proofs.delivered.owners.owner_rows.Given as goal

abbrev pub invariant-loop-path : goal.invariant-loop-path
invariant-loop-path l = MadeRows l.accounts l.admitted (gone_through l.yielded) l.rows.items
