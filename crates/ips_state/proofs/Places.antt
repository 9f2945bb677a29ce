-- Where records stand are paths.
use Rattle.std.proofs.Common.{◌≡◌, ◌≤◌, ℕ, List, [], ◌∷◌, ◌++◌, length, refl, arith, false, length-append}
use Rattle.std.specs.Prelude.{codes}
use Rattle.std.specs.List.{join_with_byte}
use Rattle.ips_text.specs.Path.{IsPath}
use Rattle.ips_text.specs.Quote.{quoted}
use Rattle.ips_fmri.specs.Name.{IsStem}
use Rattle.ips_records.proofs.Joined.{IsFileName, joined_path, pkg_name}
use Rattle.ips_records.proofs.FileNames.{stem_name}
use Rattle.ips_state.specs.Records.{manifest_path, package_path}

-- a name in a folder of records
in_folder : (folder name : List ℕ) → IsFileName folder → IsFileName name → length folder ≤ 20 → IsPath (join_with_byte 47 (codes "var" ∷ codes "pkg" ∷ folder ∷ name ∷ []))
in_folder folder name f n short = joined_path (codes "var" ∷ codes "pkg" ∷ folder ∷ name ∷ []) (record { bytes = refl; some = omega arith; few = omega arith; no_dots = refl }, (pkg_name, (f, n))) (omega (arith, n.few, length-append folder (47 ∷ name)))

pub manifest_is_path : (stem : List ℕ) → IsStem false stem → IsPath (manifest_path stem)
manifest_is_path stem h = in_folder (codes "manifests") (quoted stem) (record { bytes = refl; some = omega arith; few = omega arith; no_dots = refl }) (stem_name stem h) (omega arith)

pub package_is_path : (stem : List ℕ) → IsStem false stem → IsPath (package_path stem)
package_is_path stem h = in_folder (codes "packages") (quoted stem) (record { bytes = refl; some = omega arith; few = omega arith; no_dots = refl }) (stem_name stem h) (omega arith)
