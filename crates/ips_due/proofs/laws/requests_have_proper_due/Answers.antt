use Rattle.ips_due.proofs.RequestPaths.{request_is_proper}
use Rattle.ips_due.proofs.laws.requests_have_proper_due.Goals as goal

pub returns : goal.returns
returns c = λ accounts old new was is files modes lawful_old lawful named_old named. request_is_proper accounts old new was is files lawful_old lawful named_old named modes
