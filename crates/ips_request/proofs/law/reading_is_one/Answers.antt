use Rattle.ips_request.proofs.OneReading.{one_reading}
use Rattle.ips_request.proofs.law.reading_is_one.Goals as goal

pub returns : goal.returns
returns c = one_reading
