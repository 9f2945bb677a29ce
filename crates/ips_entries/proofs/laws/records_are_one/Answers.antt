use Rattle.ips_entries.proofs.HeldOnce.{one_list, one_written}
use Rattle.ips_entries.proofs.laws.records_are_one.Goals as goal

pub returns-clause-texts : goal.returns-clause-texts
returns-clause-texts c = one_list

pub returns-clause-states : goal.returns-clause-states
returns-clause-states c = one_written c.manifests_read_back.ensures.again
