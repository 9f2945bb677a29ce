use Rattle.ips_journal.proofs.FieldForms.{mode_found}
use Rattle.ips_journal.proofs.fields.mode_of.Goals as goal

pub returns-clause-some : goal.returns-clause-some
returns-clause-some c = mode_found c.octal.result c.args.bytes.now c.if-bytes-ne4.false c.octal.ensures.found c.octal.ensures.small
