use Rattle.ips_line.proofs.Quotes.{written_quote, written_plain}
use Rattle.ips_line.proofs.values.read_value.Goals as goal

pub returns-in-Some-clause-exact : goal.returns-in-Some-clause-exact
returns-in-Some-clause-exact c = rw (written_quote c.args.text.now c.in-Some.quote c.in-Some.ensures.some.0 c.in-Some.ensures.some.1) c.quoted.ensures.exact

pub returns-in-None-clause-exact : goal.returns-in-None-clause-exact
returns-in-None-clause-exact c = rw (written_plain c.args.text.now c.in-None.ensures.none) c.plain.ensures.exact
