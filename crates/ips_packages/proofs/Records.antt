-- The first lines of a package's record, and the place of its file.
use Rattle.std.proofs.Common.{◌≡◌, ℕ, ◌<◌, false, List, [], ◌∷◌, ◌++◌, length, sym, ◌∙◌, ap, subst, arith, append_assoc}
use Rattle.std.specs.Prelude.{codes}
use Rattle.std.specs.Str.{IsUtf8}
use Rattle.std.proofs.lemmas.List.{append_cancel_left}
use Rattle.ips_text.specs.Cut.{has_byte, IsCut}
use Rattle.ips_text.specs.Quote.{quoted}
use Rattle.ips_text.proofs.Cuts.{cut_once, not_cut}
use Rattle.ips_fmri.specs.Name.{IsStem}
use Rattle.ips_fmri.specs.Version.{Parts, IsVersion, version_text}
use Rattle.ips_records.specs.Lines.{ended}
use Rattle.ips_records.specs.Form.{IsWord}
use Rattle.ips_records.proofs.Clear.{clear_lacks, version_clear}
use Rattle.ips_records.proofs.FileNames.{low_stem, low_text, low_version, stem_name}
use Rattle.ips_records.proofs.WordForms.{word_one}
use Rattle.ips_state.specs.Records.{package_path}
use Rattle.ips_load.specs.Fault.{IsPackagePlace}

-- ---- the line of the version

-- the line of a version, and what stands behind it
abbrev pub version_first : Parts → List ℕ → List ℕ
version_first v rest = ended (codes "version " ++ version_text v) ++ rest

behind_word : (v : Parts) (rest : List ℕ) → version_first v rest ≡ codes "version " ++ (version_text v ++ 10 ∷ rest)
behind_word v rest = ap (λ (l : List ℕ). codes "version " ++ l) (append_assoc (version_text v) (10 ∷ []) rest)

-- what stands behind the word is cut behind the version
version_behind : (v : Parts) (bytes behind rest : List ℕ) → bytes ≡ codes "version " ++ behind → bytes ≡ version_first v rest → behind ≡ version_text v ++ 10 ∷ rest
version_behind v bytes behind rest word is = append_cancel_left (codes "version ") behind (version_text v ++ 10 ∷ rest) (sym word ∙ is ∙ behind_word v rest)

pub no_word : (v : Parts) (bytes rest : List ℕ) → ((behind : List ℕ) → bytes ≡ codes "version " ++ behind → ⊥) → bytes ≡ version_first v rest → ⊥
no_word v bytes rest none is = none (version_text v ++ 10 ∷ rest) (is ∙ behind_word v rest)

pub no_newline : (v : Parts) (bytes behind rest : List ℕ) → bytes ≡ codes "version " ++ behind → has_byte 10 behind ≡ false → bytes ≡ version_first v rest → ⊥
no_newline v bytes behind rest word none is = not_cut 10 behind (version_text v) rest none (version_behind v bytes behind rest word is)

-- the version is the whole line
pub version_line_is : (v : Parts) (bytes behind line text rest : List ℕ) → IsVersion v → bytes ≡ codes "version " ++ behind → IsCut 10 behind line text → bytes ≡ version_first v rest → version_text v ≡ line
version_line_is v bytes behind line text rest h word cut is =
    (cut_once 10 (version_text v) rest line text (clear_lacks 10 (version_text v) (omega arith) (version_clear v h)) cut.first_lacks (sym (version_behind v bytes behind rest word is) ∙ cut.parts)).0

pub version_line_told : (v : Parts) (bytes behind line text : List ℕ) → bytes ≡ codes "version " ++ behind → IsCut 10 behind line text → version_text v ≡ line → bytes ≡ version_first v text
version_line_told v bytes behind line text word cut is =
    word ∙ ap (λ (l : List ℕ). codes "version " ++ l) (cut.parts ∙ ap (λ (l : List ℕ). l ++ 10 ∷ text) (sym is)) ∙ sym (behind_word v text)

-- a version is a text
pub version_is_text : (v : Parts) (bytes : List ℕ) → IsVersion v → version_text v ≡ bytes → IsUtf8 bytes
version_is_text v bytes h is = subst IsUtf8 is (low_text (version_text v) (low_version v h))

-- ---- the place of a record

-- a stem can stand quoted
some_quoted : (bytes : List ℕ) → 0 < length (quoted bytes) → 0 < length bytes
unfolding quoted
some_quoted [] some = some
some_quoted (b ∷ bytes) some = omega arith

pub stem_is_word : (stem : List ℕ) → IsStem false stem → IsWord stem
stem_is_word stem h = record { some = some_quoted stem (stem_name stem h).some; text = low_text stem (low_stem stem h) }

quoted_behind : (path name stem : List ℕ) → path ≡ codes "var/pkg/packages/" ++ name → path ≡ package_path stem → quoted stem ≡ name
quoted_behind path name stem is place = append_cancel_left (codes "var/pkg/packages/") (quoted stem) name (sym place ∙ is)

pub not_below : (path : List ℕ) → ((name : List ℕ) → path ≡ codes "var/pkg/packages/" ++ name → ⊥) → IsPackagePlace path → ⊥
not_below path none place = none (quoted place.0) place.2

pub not_quoted : (path name : List ℕ) → path ≡ codes "var/pkg/packages/" ++ name → ((word : List ℕ) → IsWord word → quoted word ≡ name → ⊥) → IsPackagePlace path → ⊥
not_quoted path name is none place = none place.0 (stem_is_word place.0 place.1) (quoted_behind path name place.0 is place.2)

pub not_stem : (path name word : List ℕ) → path ≡ codes "var/pkg/packages/" ++ name → IsWord word → quoted word ≡ name → ((stem : List ℕ) → IsStem false stem → stem ≡ word → ⊥) → IsPackagePlace path → ⊥
not_stem path name word is h quote none place =
    none place.0 place.1 (word_one place.0 word (stem_is_word place.0 place.1) h (quoted_behind path name place.0 is place.2 ∙ sym quote))

pub place_told : (path name word stem : List ℕ) → path ≡ codes "var/pkg/packages/" ++ name → quoted word ≡ name → stem ≡ word → path ≡ package_path stem
place_told path name word stem is quote same = is ∙ ap (λ (l : List ℕ). codes "var/pkg/packages/" ++ l) (sym quote ∙ ap quoted (sym same))
