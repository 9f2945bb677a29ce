use Rattle.std.proofs.Common.{◌∙◌}
use Rattle.std.proofs.lemmas.Result.{err_from_is_err_and}
use Rattle.ips_books.specs.Seen.{files_seen, texts}
use Rattle.ips_accounts.specs.Seen.{tables_seen}
use Rattle.ips_accounts.proofs.Steps.{read_first, read_done}
use Rattle.ips_accounts.proofs.editing.read.Goals as goal

pub returns-in_err-files : goal.returns-in_err-files
returns-in_err-files c =
    let p = err_from_is_err_and c.from_residual.result c.from_residual.ensures.1 in
    rw (p.1, p.2) (read_first c.in_err-files.field-0.0 (texts c.args.base.now) c.args.old.now c.args.new.now c.in_err-files.ensures)

pub returns : goal.returns
returns c = read_done (texts c.args.base.now) (files_seen c.in_ok-files.files) (tables_seen c.in_ok-new.field-0) c.args.old.now c.args.new.now c.in_ok-files.ensures (c.in_ok-new.ensures ∙ c.in_ok-remove_gone.ensures)
