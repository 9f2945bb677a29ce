-- Folders of the image stand at paths.
use Rattle.std.proofs.Common.{[], ◌∷◌, codes, refl, arith}
use Rattle.ips_text.specs.Path.{IsPath}
use Rattle.ips_due.specs.Delivered.{licenses_path}
use Rattle.ips_due.specs.Apart.{lost_path}
use Rattle.ips_records.proofs.Joined.{joined_path, pkg_name}

pub licenses_place : IsPath licenses_path
licenses_place = joined_path (codes "var" ∷ codes "pkg" ∷ codes "license" ∷ []) (record { bytes = refl; some = omega arith; few = omega arith; no_dots = refl }, (pkg_name, record { bytes = refl; some = omega arith; few = omega arith; no_dots = refl })) (omega arith)

pub lost_place : IsPath lost_path
lost_place = joined_path (codes "var" ∷ codes "pkg" ∷ codes "lost+found" ∷ []) (record { bytes = refl; some = omega arith; few = omega arith; no_dots = refl }, (pkg_name, record { bytes = refl; some = omega arith; few = omega arith; no_dots = refl })) (omega arith)
