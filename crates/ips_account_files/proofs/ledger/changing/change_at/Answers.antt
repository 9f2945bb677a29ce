use Rattle.std.proofs.Common.{sym}
use Rattle.ips_account_files.proofs.ledger.Silent.{changes_bare}
use Rattle.ips_account_files.proofs.ledger.changing.change_at.Goals as goal

pub returns-in-None-clause-told : goal.returns-in-None-clause-told
returns-in-None-clause-told c = λ r t said good table silent are. sym (changes_bare r t c.args.rows.now said c.args.settled.now c.args.path.now good table c.requires.settled c.in-None.ensures.none)

pub returns-in-Some-clause-fits : goal.returns-in-Some-clause-fits
returns-in-Some-clause-fits c = λ r of. c.settled_at.ensures.fits r c.args.path.now of c.in-Some.ensures.some
