use Rattle.ips_accounts.specs.Seen.{tables_seen}
use Rattle.ips_accounts.proofs.Steps.{Known}
use Rattle.ips_accounts.proofs.users.are_known.Given as goal

abbrev pub invariant-loop-user : goal.invariant-loop-user
invariant-loop-user l = Known l.users l.user-index (tables_seen l.tables)
