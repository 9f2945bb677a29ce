use Rattle.ips_request.proofs.Grammar.{some_reading}
use Rattle.ips_request.proofs.law.manifests_can_be_read.Goals as goal

pub returns : goal.returns
returns c = some_reading
