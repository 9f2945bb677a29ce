use Rattle.ips_image.proofs.Told.{avoid_is_path, freeze_is_path, mediators_is_path, history_is_path}
use Rattle.ips_image.proofs.lists.made_places.Goals as goal

pub path_of-requires : goal.path_of-requires
path_of-requires c = avoid_is_path

pub path_of-requires-2 : goal.path_of-requires-2
path_of-requires-2 c = freeze_is_path

pub path_of-requires-3 : goal.path_of-requires-3
path_of-requires-3 c = mediators_is_path

pub path_of-requires-4 : goal.path_of-requires-4
path_of-requires-4 c = history_is_path
