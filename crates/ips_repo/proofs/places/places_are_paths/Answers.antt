use Rattle.std.proofs.Common.{◌≡◌, ℕ, List, [], ◌∷◌, ◌++◌, take, append_assoc, length-append, refl, subst, arith}
use Rattle.std.specs.Prelude.{codes}
use Rattle.std.specs.List.{join_with_byte}
use Rattle.ips_text.specs.Path.{IsPath}
use Rattle.ips_text.specs.Quote.{quoted}
use Rattle.ips_fmri.specs.Version.{version_text}
use Rattle.ips_digest.specs.Name.{spelling}
use Rattle.ips_repo.specs.Places as place
use Rattle.ips_records.proofs.Joined.{IsFileName, joined_path, pkg_name}
use Rattle.ips_records.proofs.FileNames.{stem_name, publisher_name, version_name}
use Rattle.ips_repo.proofs.Digits.{payload_digits}
use Rattle.ips_repo.proofs.places.places_are_paths.Goals as goal

word_publisher : IsFileName (codes "publisher")
word_publisher = record { bytes = refl; some = omega arith; few = omega arith; no_dots = refl }

word_catalog : IsFileName (codes "catalog")
word_catalog = record { bytes = refl; some = omega arith; few = omega arith; no_dots = refl }

word_base : IsFileName (codes "catalog.base.C")
word_base = record { bytes = refl; some = omega arith; few = omega arith; no_dots = refl }

word_file : IsFileName (codes "file")
word_file = record { bytes = refl; some = omega arith; few = omega arith; no_dots = refl }

manifest_joined : (publisher stem version : List ℕ) → join_with_byte 47 (codes "publisher" ∷ publisher ∷ codes "pkg" ∷ stem ∷ version ∷ []) ≡ place.publisher_place publisher ++ codes "/pkg/" ++ stem ++ 47 ∷ version
manifest_joined publisher stem version = simp append_assoc

pub returns-clause-catalogs : goal.returns-clause-catalogs
returns-clause-catalogs c = λ publisher p.
    let name = publisher_name publisher p in
    let names : List (List ℕ) = codes "publisher" ∷ publisher ∷ codes "catalog" ∷ codes "catalog.base.C" ∷ [] in
    let is : join_with_byte 47 names ≡ place.catalog_place publisher = simp append_assoc in
    subst IsPath is (joined_path names (word_publisher, (name, (word_catalog, word_base))) (simp length-append (omega (arith, name.few))))

pub returns-clause-manifests : goal.returns-clause-manifests
returns-clause-manifests c = λ publisher stem version p s v.
    let name = publisher_name publisher p in
    let quoted_stem = stem_name stem s in
    let number = version_name version v in
    let names : List (List ℕ) = codes "publisher" ∷ publisher ∷ codes "pkg" ∷ quoted stem ∷ quoted (version_text version) ∷ [] in
    subst IsPath (manifest_joined publisher (quoted stem) (quoted (version_text version))) (joined_path names (word_publisher, (name, (pkg_name, (quoted_stem, number)))) (simp length-append (omega (arith, name.few, quoted_stem.few, number.few))))

pub returns-clause-payloads : goal.returns-clause-payloads
returns-clause-payloads c = λ publisher payload p n.
    let name = publisher_name publisher p in
    let digits = payload_digits payload n in
    let names : List (List ℕ) = codes "publisher" ∷ publisher ∷ codes "file" ∷ take 2 (spelling payload) ∷ spelling payload ∷ [] in
    let is : join_with_byte 47 names ≡ place.payload_place publisher payload = simp append_assoc in
    subst IsPath is (joined_path names (word_publisher, (name, (word_file, (digits.front, digits.all)))) (simp length-append (omega (arith, name.few, digits.front.few, digits.short))))
