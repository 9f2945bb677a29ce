-- The updater's own names are paths.
use Rattle.std.proofs.Common.{◌≡◌, ℕ, ◌+◌, ◌%◌, ◌<◌, ◌^◌, Bool, true, false, ◌&&◌, ◌==◌, List, [], ◌∷◌, ◌++◌, length, length-append, take, drop, refl, ◌∙◌, ap, arith}
use Rattle.std.specs.List.{list_all}
use Rattle.std.specs.Prelude.{codes, nat_le}
use Rattle.std.specs.Fmt.{decimal}
use Rattle.std.proofs.lemmas.Bool.{and_parts, and_from}
use Rattle.std.proofs.lemmas.Bool.Decides.{nat_tests}
use Rattle.std.proofs.lemmas.Fmt.{decimal_by_steps, decimal_nonempty}
use Rattle.std.proofs.lemmas.List.Folds.{list_all-append}
use borrow.Rule.Slice.PartMut.{put_mid}
use Rattle.std.proofs.lemmas.Slice.{take-put_mid}
use Rattle.ips_text.specs.Path.{IsPath, is_dots}
use Rattle.ips_steps.specs.Steps.{stage_name, stage_path}
use Rattle.ips_steps.specs.Private.{mark_front, mark_name}
use Rattle.ips_repo.proofs.Joined.{is_name_byte, IsFileName, joined_path, pkg_name}
use Rattle.ips_journal.proofs.FieldForms.{number_long}

var : IsFileName (codes "var")
var = record { bytes = refl; some = omega arith; few = omega arith; no_dots = refl }

stage : IsFileName (codes "stage")
stage = record { bytes = refl; some = omega arith; few = omega arith; no_dots = refl }

pub journal_path : IsPath (codes "var/pkg/journal")
journal_path = joined_path (codes "var" ∷ codes "pkg" ∷ codes "journal" ∷ []) (var, (pkg_name, record { bytes = refl; some = omega arith; few = omega arith; no_dots = refl })) (omega arith)

pub gate_path : IsPath (codes "var/pkg/gate")
gate_path = joined_path (codes "var" ∷ codes "pkg" ∷ codes "gate" ∷ []) (var, (pkg_name, record { bytes = refl; some = omega arith; few = omega arith; no_dots = refl })) (omega arith)

-- ---- numbers

-- a decimal digit
abbrev is_digit : ℕ → Bool
is_digit b = nat_le 48 b && nat_le b 57

digit : (n : ℕ) → n < 10 → is_digit (48 + n) ≡ true
digit n lt = grind (arith, nat_tests)

digit_name : (b : ℕ) → is_digit b ≡ true → is_name_byte b ≡ true
digit_name b is = grind (arith, nat_tests)

digit_no_dot : (b : ℕ) → is_digit b ≡ true → (b == 46) ≡ false
digit_no_dot b is = grind (arith, nat_tests)

all_digits : (n : ℕ) → n < 2 ^ 64 → list_all is_digit (decimal n) ≡ true
all_digits = decimal_by_steps (λ n ds. list_all is_digit ds ≡ true)
    (λ n small. and_from _ _ (digit n small) refl)
    (λ n ds large all. list_all-append is_digit ds ((48 + n % 10) ∷ []) ∙ and_from _ _ all (and_from _ _ (digit (n % 10) (omega arith)) refl))

names_of : (ds : List ℕ) → list_all is_digit ds ≡ true → list_all is_name_byte ds ≡ true
names_of [] all = refl
names_of (b ∷ ds) all = let parts = and_parts (is_digit b) (list_all is_digit ds) all in and_from _ _ (digit_name b parts.0) (names_of ds parts.1)

no_dots_of : (ds : List ℕ) → list_all is_digit ds ≡ true → is_dots ds ≡ false
no_dots_of [] all = refl
no_dots_of (b ∷ []) all = digit_no_dot b (and_parts (is_digit b) true all).0
no_dots_of (b ∷ c ∷ []) all = ap (λ (x : Bool). x && (c == 46)) (digit_no_dot b (and_parts (is_digit b) _ all).0)
no_dots_of (b ∷ c ∷ d ∷ ds) all = refl

number : (n : ℕ) → n < 2 ^ 64 → IsFileName (decimal n)
number n lt = record {
  bytes = names_of (decimal n) (all_digits n lt);
  some = decimal_nonempty n lt;
  few = let le = number_long n lt in omega arith;
  no_dots = no_dots_of (decimal n) (all_digits n lt);
}

pub content_is_path : (n : ℕ) → n < 2 ^ 64 → IsPath (stage_path n)
unfolding stage_name
content_is_path n lt = let le = number_long n lt in joined_path (codes "var" ∷ codes "pkg" ∷ codes "stage" ∷ decimal n ∷ []) (var, (pkg_name, (stage, number n lt))) (omega arith)

mark_word : (n : ℕ) → n < 2 ^ 64 → IsFileName (codes "done." ++ decimal n)
mark_word n lt = let le = number_long n lt in record {
  bytes = list_all-append is_name_byte (codes "done.") (decimal n) ∙ names_of (decimal n) (all_digits n lt);
  some = omega arith;
  few = omega arith;
  no_dots = refl;
}

pub mark_is_path : (n : ℕ) → n < 2 ^ 64 → IsPath (mark_name n)
unfolding mark_front
mark_is_path n lt = let le = number_long n lt in joined_path (codes "var" ∷ codes "pkg" ∷ (codes "done." ++ decimal n) ∷ []) (var, (pkg_name, mark_word n lt)) (omega arith)

pub mark_written : (n k : ℕ) (first second bytes digits : List ℕ) → first ≡ codes "var/pkg/done." → second ≡ digits → digits ≡ decimal n
    → take (13 + length digits) (put_mid 13 k (first ++ drop 13 bytes) second) ≡ mark_name n
unfolding mark_front
mark_written n k first second bytes digits f s d =
    take-put_mid 13 k (first ++ drop 13 bytes) second (13 + length digits) (omega (arith, ap length s)) (omega (arith, length-append first (drop 13 bytes), ap length f)) ∙ rw (f, s, d) refl
