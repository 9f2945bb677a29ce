use Rattle.std.proofs.Common.{[], ◌∷◌, codes, refl, arith}
use Rattle.ips_records.proofs.Joined.{joined_path, pkg_name}
use Rattle.ips_packages.proofs.Folders.{packages_is_path}
use Rattle.ips_request_due.proofs.creating.of_state.Goals as goal

pub one_path-requires : goal.one_path-requires
one_path-requires c = packages_is_path

pub one_path-requires-2 : goal.one_path-requires-2
one_path-requires-2 c = joined_path (codes "var" ∷ codes "pkg" ∷ codes "index" ∷ []) (record { bytes = refl; some = omega arith; few = omega arith; no_dots = refl }, (pkg_name, record { bytes = refl; some = omega arith; few = omega arith; no_dots = refl })) (omega arith)
