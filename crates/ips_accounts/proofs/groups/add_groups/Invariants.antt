use Rattle.ips_accounts.specs.Seen.{tables_seen}
use Rattle.ips_accounts.specs.Editing.{with_group}
use Rattle.ips_accounts.proofs.Steps.{Goes}
use Rattle.ips_accounts.proofs.groups.add_groups.Given as goal

abbrev pub invariant-loop-group : goal.invariant-loop-group
invariant-loop-group l = Goes with_group l.groups l.group-index (tables_seen l.tables) (tables_seen l.initial.tables)
