use Rattle.ips_due.specs.Delivered.{request_due}
use Rattle.ips_delivered.proofs.delivered.laws.owners_are_apart.Goals as goal

pub returns : goal.returns
returns c = λ accounts old new was other is licenses legacy i. request_due accounts old new (record { owners = was.owners; drivers = was.drivers; licenses = licenses i; legacy = legacy i }) is
