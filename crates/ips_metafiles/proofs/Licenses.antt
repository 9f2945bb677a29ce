-- Where licenses are recorded is a path.
use Rattle.std.proofs.Common.{◌≡◌, ℕ, ◌<◌, true, List, [], ◌∷◌, length, refl, ◌∙◌, ap, subst, arith, append_assoc, length-append, Fits, w8, codes}
use Rattle.std.specs.Prelude.{slice_index_or}
use Rattle.std.specs.List.{list_all, join_with_byte}
use Rattle.std.proofs.lemmas.Bool.{agree_below_at}
use borrow.Author.Tests.{leb-true}
use Rattle.std.proofs.lemmas.List.Concat.{flat_map-cons}
use Rattle.std.proofs.lemmas.List.Elements.{recursion_from_All, All-from_get_or}
use Rattle.std.proofs.lemmas.List.Folds.{list_all-append}
use Rattle.ips_text.specs.Path.{IsPath}
use Rattle.ips_text.specs.Quote.{quoted, quoted_byte, AreBytes}
use Rattle.ips_repo.proofs.Joined.{is_name_byte, IsFileName, joined_path, pkg_name}
use Rattle.ips_metafiles.specs.Records.{IsQuotedName, license_path}

abbrev IsByte : ℕ → Type 0
IsByte b = b < 256

-- what a slice of bytes has are bytes
pub bytes_are : (bytes : List ℕ) → ((i : ℕ) → Fits w8 (slice_index_or bytes i 0)) → AreBytes bytes
bytes_are bytes fit = recursion_from_All IsByte bytes (All-from_get_or IsByte bytes 0 (λ i within. omega (arith, fit i)))

byte_quoted : (b : ℕ) → b < 256 → list_all is_name_byte (quoted_byte b) ≡ true
byte_quoted b lt = agree_below_at (λ b. list_all is_name_byte (quoted_byte b)) (λ b. true) 256 b refl lt

all_quoted : (bytes : List ℕ) → AreBytes bytes → list_all is_name_byte (quoted bytes) ≡ true
unfolding quoted
all_quoted [] are = refl
all_quoted (b ∷ bytes) are =
    ap (list_all is_name_byte) (flat_map-cons quoted_byte b bytes) ∙ list_all-append is_name_byte (quoted_byte b) (quoted bytes) ∙ rw (byte_quoted b are.0, all_quoted bytes are.1) refl

file_name : (bytes : List ℕ) → AreBytes bytes → IsQuotedName bytes → IsFileName (quoted bytes)
file_name bytes are name = record { bytes = all_quoted bytes are; some = name.some; few = leb-true (length (quoted bytes)) 255 name.short; no_dots = name.no_dots }

word_license : IsFileName (codes "license")
word_license = record { bytes = refl; some = omega arith; few = omega arith; no_dots = refl }

pub license_is_path : (stem name : List ℕ) → AreBytes stem → AreBytes name → IsQuotedName stem → IsQuotedName name → IsPath (license_path stem name)
license_is_path stem name are_stem are_name of_stem of_name =
    let var : IsFileName (codes "var") = record { bytes = refl; some = omega arith; few = omega arith; no_dots = refl } in
    let first = file_name stem are_stem of_stem in
    let second = file_name name are_name of_name in
    let names : List (List ℕ) = codes "var" ∷ codes "pkg" ∷ codes "license" ∷ quoted stem ∷ quoted name ∷ [] in
    let is : join_with_byte 47 names ≡ license_path stem name = simp append_assoc in
    subst IsPath is (joined_path names (var, (pkg_name, (word_license, (first, second)))) (simp length-append (omega (arith, first.few, second.few))))
