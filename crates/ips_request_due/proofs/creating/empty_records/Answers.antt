use Rattle.ips_delivered.proofs.delivered.Places.{drivers_place, owners_place}
use Rattle.ips_request_due.proofs.creating.empty_records.Goals as goal

pub empty_record-requires : goal.empty_record-requires
empty_record-requires c = owners_place

pub empty_record-requires-2 : goal.empty_record-requires-2
empty_record-requires-2 c = drivers_place
