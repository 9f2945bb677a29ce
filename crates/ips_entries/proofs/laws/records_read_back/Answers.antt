use Rattle.ips_entries.proofs.ReadBack.{read_back}
use Rattle.ips_entries.proofs.laws.records_read_back.Goals as goal

pub returns : goal.returns
returns c = read_back c.manifests_read_back.ensures.again
