use Rattle.ips_delivered.proofs.delivered.Places.{owners_place}
use Rattle.ips_delivered.proofs.delivered.delivering.owners_record.Goals as goal

pub parsed-requires : goal.parsed-requires
parsed-requires c = owners_place
