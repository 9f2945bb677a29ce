use Rattle.std.proofs.Common.{List, map, take_all, ◌∙◌, ap, arith}
use Rattle.ips_after.specs.Findings.{is_account_path}
use Rattle.ips_change.specs.declared.survey.row.Row.{Row}
use Rattle.ips_links.proofs.Linked.{at_path, by_rows}
use Rattle.ips_emptied.proofs.order.account.accounts.Goals as goal

pub returns : goal.returns
returns c =
    c.loop-row.invariant
    ∙ ap (λ (l : List Row). map (at_path is_account_path) l) (take_all c.loop-row.row-index c.args.rows.now (omega (arith, c.loop-row-test.false)))
    ∙ by_rows is_account_path c.args.rows.now
