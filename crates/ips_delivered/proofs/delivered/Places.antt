-- Where records of owners, drivers and legacy packages stand.
use Rattle.std.proofs.Common.{◌≡◌, ℕ, List, [], ◌∷◌, length, true, refl, ◌∙◌, ap, subst, arith, append_assoc, length-append, codes}
use Rattle.std.specs.List.{list_all, join_with_byte}
use Rattle.std.proofs.lemmas.Bool.{agree_below_at}
use borrow.Author.Tests.{leb-true}
use Rattle.std.proofs.lemmas.List.Concat.{flat_map-cons}
use Rattle.std.proofs.lemmas.List.Folds.{list_all-append}
use Rattle.ips_text.specs.Path.{IsPath}
use Rattle.ips_text.specs.Quote.{AreBytes, quoted, quoted_byte}
use Rattle.ips_metafiles.specs.Records.{IsQuotedName}
use Rattle.ips_records.proofs.Joined.{IsFileName, is_name_byte, joined_path, pkg_name}
use Rattle.ips_due.specs.Delivered.{drivers_path, info_path, owners_path}

pub owners_place : IsPath owners_path
owners_place =
    let name : IsFileName (codes "owners") = record { bytes = refl; some = omega arith; few = omega arith; no_dots = refl } in
    joined_path (codes "var" ∷ codes "pkg" ∷ codes "owners" ∷ []) (record { bytes = refl; some = omega arith; few = omega arith; no_dots = refl }, (pkg_name, name)) (omega (arith, name.few))

pub drivers_place : IsPath drivers_path
drivers_place =
    let name : IsFileName (codes "drivers") = record { bytes = refl; some = omega arith; few = omega arith; no_dots = refl } in
    joined_path (codes "var" ∷ codes "pkg" ∷ codes "drivers" ∷ []) (record { bytes = refl; some = omega arith; few = omega arith; no_dots = refl }, (pkg_name, name)) (omega (arith, name.few))

quoted_file : (name : List ℕ) → IsQuotedName name → AreBytes name → IsFileName (quoted name)
unfolding quoted
quoted_file name is are_bytes = record { bytes = plain name are_bytes; some = is.some; few = leb-true (length (quoted name)) 255 is.short; no_dots = is.no_dots }
  where
    plain : (bytes : List ℕ) → AreBytes bytes → list_all is_name_byte (quoted bytes) ≡ true
    plain [] are = refl
    plain (b ∷ bytes) are =
        ap (list_all is_name_byte) (flat_map-cons quoted_byte b bytes) ∙ list_all-append is_name_byte (quoted_byte b) (quoted bytes)
        ∙ rw (agree_below_at (λ c. list_all is_name_byte (quoted_byte c)) (λ c. true) 256 b refl are.0, plain bytes are.1) refl

pub info_place : (name : List ℕ) → AreBytes name → IsQuotedName name → IsPath (info_path name)
info_place name are_bytes named =
    let middle = quoted_file name named are_bytes in
    let names : List (List ℕ) = codes "var" ∷ codes "sadm" ∷ codes "pkg" ∷ quoted name ∷ codes "pkginfo" ∷ [] in
    let is : join_with_byte 47 names ≡ info_path name = simp append_assoc in
    subst IsPath is (joined_path names (record { bytes = refl; some = omega arith; few = omega arith; no_dots = refl }, (record { bytes = refl; some = omega arith; few = omega arith; no_dots = refl }, (pkg_name, (middle, record { bytes = refl; some = omega arith; few = omega arith; no_dots = refl })))) (simp length-append (omega (arith, middle.few))))
