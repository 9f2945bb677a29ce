use Rattle.ips_packages.proofs.Folders.{packages_is_path}
use Rattle.ips_packages.proofs.folder.load_folder.Goals as goal

pub path_of-requires : goal.path_of-requires
path_of-requires g c = packages_is_path
