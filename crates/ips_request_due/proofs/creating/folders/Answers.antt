use Rattle.ips_request_due.proofs.Paths.{licenses_place, lost_place}
use Rattle.ips_request_due.proofs.creating.folders.Goals as goal

pub one_path-requires : goal.one_path-requires
one_path-requires c = licenses_place

pub path_of-requires : goal.path_of-requires
path_of-requires c = lost_place
