use Rattle.ips_steps.proofs.Owing as owing
use Rattle.ips_steps.proofs.laws.owed_again.Goals as goal

pub returns : goal.returns
returns c = record { crashed = owing.owes_crashed; synced = owing.owes_synced; gate = owing.owed_open; one_count = owing.one_count }
