use Rattle.ips_packages.proofs.Folders.{packages_is_path}
use Rattle.ips_request_due.proofs.asking.renewed.Goals as goal

pub path_of-requires : goal.path_of-requires
path_of-requires c = packages_is_path
