use Rattle.std.proofs.Common.{◌≡◌, filter, map, take}
use Rattle.ips_account_files.specs.Around.{is_account}
use Rattle.ips_plan.proofs.image_plan.accounts.add_accounts.Given as goal

abbrev pub invariant-loop-item : goal.invariant-loop-item
invariant-loop-item l = l.accounts.items ≡ filter is_account (map (λ p. p.action) (take l.item-index l.admitted))
