use Rattle.std.proofs.Common.{[], refl}
use Rattle.ips_state.specs.Records.{history_path}
use Rattle.ips_repair.proofs.putting.history.Goals as goal

pub path_of-requires : goal.path_of-requires
path_of-requires c = let proper = c.repairs_hang_together.ensures.proper [] in proper.paths history_path refl
