-- Where the files of the repository stand.
use Rattle.std.proofs.Common.{◌≡◌, ◌≤◌, false, ℕ, ◌%◌, ◌<◌, ◌^◌, Bool, true, ◌+◌, List, [], ◌∷◌, ◌++◌, length, length-append, take, refl, ◌∙◌, subst, append_assoc, arith}
use Rattle.std.specs.List.{list_all, join_with_byte}
use Rattle.std.specs.Prelude.{codes}
use Rattle.std.specs.Fmt.{decimal}
use Rattle.std.proofs.lemmas.Bool.{and_from}
use Rattle.std.proofs.lemmas.Bool.Decides.{nat_tests}
use Rattle.std.proofs.lemmas.Fmt.{decimal_by_steps, length-decimal-le}
use Rattle.std.proofs.lemmas.List.Folds.{list_all-append}
use Rattle.ips_text.specs.Path.{IsPath, is_dots}
use Rattle.ips_digest.specs.Name.{IsName, spelling}
use Rattle.ips_digest.specs.declared.name.PayloadName.{PayloadName}
use Rattle.ips_records.proofs.Joined.{is_name_byte, IsFileName, joined_path, pkg_name}
use Rattle.ips_repo.proofs.Digits.{payload_digits}
use Rattle.ips_generate.specs.Generated.{quoted_stem, quoted_version, manifest_place, payload_place}

-- what can be tested of a name makes it the name of a file
name_is : (name : List ℕ) → list_all is_name_byte name ≡ true → is_dots name ≡ false → 0 < length name → length name ≤ 255 → IsFileName name
name_is name bytes dots some few = record { bytes = bytes; some = some; few = few; no_dots = dots }

pub mark_path : IsPath (codes "pkg5.repository")
mark_path = joined_path (codes "pkg5.repository" ∷ []) (name_is (codes "pkg5.repository") refl refl (omega arith) (omega arith)) (omega arith)

pub top_path : IsPath (codes "publisher")
top_path = joined_path (codes "publisher" ∷ []) (name_is (codes "publisher") refl refl (omega arith) (omega arith)) (omega arith)

pub own_path : IsPath (codes "publisher/gen")
own_path = joined_path (codes "publisher" ∷ codes "gen" ∷ []) (name_is (codes "publisher") refl refl (omega arith) (omega arith), name_is (codes "gen") refl refl (omega arith) (omega arith)) (omega arith)

pub catalog_path : IsPath (codes "publisher/gen/catalog" ++ 47 ∷ codes "catalog.base.C")
catalog_path = joined_path (codes "publisher" ∷ codes "gen" ∷ codes "catalog" ∷ codes "catalog.base.C" ∷ []) (name_is (codes "publisher") refl refl (omega arith) (omega arith), (name_is (codes "gen") refl refl (omega arith) (omega arith), (name_is (codes "catalog") refl refl (omega arith) (omega arith), name_is (codes "catalog.base.C") refl refl (omega arith) (omega arith)))) (omega arith)

pub pkg_path : IsPath (codes "publisher/gen/pkg")
pkg_path = joined_path (codes "publisher" ∷ codes "gen" ∷ codes "pkg" ∷ []) (name_is (codes "publisher") refl refl (omega arith) (omega arith), (name_is (codes "gen") refl refl (omega arith) (omega arith), pkg_name)) (omega arith)

pub file_path : IsPath (codes "publisher/gen/file")
file_path = joined_path (codes "publisher" ∷ codes "gen" ∷ codes "file" ∷ []) (name_is (codes "publisher") refl refl (omega arith) (omega arith), (name_is (codes "gen") refl refl (omega arith) (omega arith), name_is (codes "file") refl refl (omega arith) (omega arith))) (omega arith)

manifest_is_path : (name : List ℕ) → IsFileName name → IsPath (manifest_place name)
manifest_is_path name s =
    let is : join_with_byte 47 (codes "publisher" ∷ codes "gen" ∷ codes "pkg" ∷ name ∷ quoted_version ∷ []) ≡ manifest_place name = simp append_assoc in
    subst IsPath is (joined_path (codes "publisher" ∷ codes "gen" ∷ codes "pkg" ∷ name ∷ quoted_version ∷ []) (name_is (codes "publisher") refl refl (omega arith) (omega arith), (name_is (codes "gen") refl refl (omega arith) (omega arith), (pkg_name, (s, name_is quoted_version refl refl (omega arith) (omega arith))))) (simp length-append (omega (arith, s.few))))

pub all_path : IsPath (manifest_place (codes "all"))
all_path = manifest_is_path (codes "all") (name_is (codes "all") refl refl (omega arith) (omega arith))

name_digit : (n : ℕ) → n < 10 → is_name_byte (48 + n) ≡ true
name_digit n lt = grind (arith, nat_tests)

name_digits : (n : ℕ) → n < 2 ^ 64 → list_all is_name_byte (decimal n) ≡ true
name_digits = decimal_by_steps (λ n ds. list_all is_name_byte ds ≡ true)
    (λ n small. and_from _ _ (name_digit n small) refl)
    (λ n ds large all. list_all-append is_name_byte ds ((48 + n % 10) ∷ []) ∙ and_from _ _ all (and_from _ _ (name_digit (n % 10) (omega arith)) refl))

stem_word : (n : ℕ) → n < 2 ^ 64 → IsFileName (quoted_stem n)
stem_word n lt = let le = length-decimal-le 20 n (omega arith) (omega arith) lt in record {
  bytes = list_all-append is_name_byte (codes "pkg%2Fp") (decimal n) ∙ name_digits n lt;
  some = omega arith;
  few = omega arith;
  no_dots = refl;
}

pub stem_path : (n : ℕ) → n < 2 ^ 64 → IsPath (manifest_place (quoted_stem n))
stem_path n lt = manifest_is_path (quoted_stem n) (stem_word n lt)

pub payload_path : (name : PayloadName) → IsName name → IsPath (payload_place (spelling name))
payload_path name n =
    let digits = payload_digits name n in
    let names : List (List ℕ) = codes "publisher" ∷ codes "gen" ∷ codes "file" ∷ take 2 (spelling name) ∷ spelling name ∷ [] in
    let is : join_with_byte 47 names ≡ payload_place (spelling name) = simp append_assoc in
    subst IsPath is (joined_path names (name_is (codes "publisher") refl refl (omega arith) (omega arith), (name_is (codes "gen") refl refl (omega arith) (omega arith), (name_is (codes "file") refl refl (omega arith) (omega arith), (digits.front, digits.all)))) (simp length-append (omega (arith, digits.front.few, digits.short))))
