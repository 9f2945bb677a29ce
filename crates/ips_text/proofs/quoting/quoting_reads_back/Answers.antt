use Rattle.ips_text.proofs.Quotes.{quoted_apart, unquoted_is}
use Rattle.ips_text.proofs.quoting.quoting_reads_back.Goals as goal

pub returns-clause-one : goal.returns-clause-one
returns-clause-one c = quoted_apart

pub returns-clause-back : goal.returns-clause-back
returns-clause-back c = unquoted_is
