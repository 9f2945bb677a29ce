use Rattle.ips_catalog.proofs.Escapes.{leads_on, escaped_back}
use Rattle.ips_catalog.proofs.pointers.pointers_lead.Goals as goal

pub returns-clause-on : goal.returns-clause-on
returns-clause-on c = leads_on

pub returns-clause-back : goal.returns-clause-back
returns-clause-back c = escaped_back
