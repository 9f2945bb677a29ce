use Rattle.ips_accounts.specs.Seen.{tables_seen}
use Rattle.ips_accounts.specs.Editing.{with_user}
use Rattle.ips_accounts.proofs.Steps.{Goes}
use Rattle.ips_accounts.proofs.users.add_users.Given as goal

abbrev pub invariant-loop-user : goal.invariant-loop-user
invariant-loop-user l = Goes with_user l.users l.user-index (tables_seen l.tables) (tables_seen l.initial.tables)
