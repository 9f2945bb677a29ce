use Rattle.std.proofs.Common.{◌≡◌, map, take}
use Rattle.ips_after.specs.Findings.{is_account_path}
use Rattle.ips_links.proofs.Linked.{at_path}
use Rattle.ips_emptied.proofs.order.account.accounts.Given as goal

abbrev pub invariant-loop-row : goal.invariant-loop-row
invariant-loop-row l = l.marks.items ≡ map (at_path is_account_path) (take l.row-index l.rows)
