use Rattle.std.proofs.lemmas.Result.{err_from_is_err_and}
use Rattle.ips_books.specs.Seen.{texts}
use Rattle.ips_accounts.specs.Seen.{tables_seen}
use Rattle.ips_accounts.proofs.Steps.{read_fails, change_fails, all_done}
use Rattle.ips_accounts.proofs.editing.edit.Goals as goal

pub returns-in_err-tables : goal.returns-in_err-tables
returns-in_err-tables c =
    let p = err_from_is_err_and c.from_residual.result c.from_residual.ensures.1 in
    rw (p.1, p.2) (read_fails c.in_err-tables.field-0.0 (texts c.args.base.now) c.args.old.now c.args.new.now c.in_err-tables.ensures)

pub returns-in_err-change : goal.returns-in_err-change
returns-in_err-change c =
    let p = err_from_is_err_and c.from_residual-in_err-change.result c.from_residual-in_err-change.ensures.1 in
    rw (p.1, p.2) (change_fails c.in_err-change.field-0.0 (texts c.args.base.now) (tables_seen c.in_ok-tables.tables) c.args.old.now c.args.new.now c.in_ok-tables.ensures c.in_err-change.ensures)

pub returns : goal.returns
returns c = all_done (texts c.args.base.now) (tables_seen c.in_ok-tables.tables) (tables_seen c.change.new.tables) (texts c.in_ok-print.field-0) c.args.old.now c.args.new.now c.in_ok-tables.ensures c.in_ok-change.ensures c.in_ok-print.ensures
