use Rattle.std.proofs.Common.{sym, ◌∙◌, ap}
use Rattle.ips_change.specs.declared.survey.row.Row.{Row}
use Rattle.ips_change.specs.survey.Rows.{row_pair}
use Rattle.ips_links.proofs.Linked.{is_bare}
use Rattle.ips_account_files.proofs.ledger.Silent.{wanted_here}
use Rattle.ips_account_files.proofs.ledger.blocking.wanted_at.Goals as goal

pub returns-in-Some : goal.returns-in-Some
returns-in-Some c = λ r said table.
    ap (λ (row : Row). (row_pair row).wanted) (sym c.index-rows-i.is)
    ∙ wanted_here r c.args.rows.now c.in-Some.i c.index-rows-i.result c.args.path.now table.entries c.in-Some.ensures.some c.in-Some.ensures.within c.index-rows-i.is

pub returns-in-None : goal.returns-in-None
returns-in-None c = λ r said table. sym (is_bare r c.args.rows.now said c.args.path.now table c.in-None.ensures.none).new
