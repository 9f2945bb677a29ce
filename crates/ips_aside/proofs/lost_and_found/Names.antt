-- The names of the salvage folder are paths.
use Rattle.std.proofs.Common.{◌≡◌, ℕ, zero, suc, ◌+◌, ◌<◌, ◌≤◌, ◌^◌, ◌%◌, Bool, true, false, ◌&&◌, ◌==◌, List, [], ◌∷◌, ◌++◌, length, length-append, refl, ◌∙◌, ap, subst, arith}
use Rattle.std.specs.Prelude.{codes}
use Rattle.std.specs.Fmt.{decimal}
use Rattle.std.specs.List.{list_all}
use Rattle.std.proofs.lemmas.Bool.{and_from, and_parts}
use Rattle.std.proofs.lemmas.Bool.Decides.{nat_tests}
use Rattle.std.proofs.lemmas.Fmt.{decimal_by_steps, length-decimal-le}
use Rattle.std.proofs.lemmas.List.Folds.{list_all-append}
use Rattle.ips_text.specs.Path.{IsPath, is_dots}
use Rattle.ips_records.proofs.Joined.{IsFileName, is_name_byte, joined_path, pkg_name}
use Rattle.ips_after.specs.Salvage.{lost_front, root_name}
use Rattle.ips_aside.specs.lost_and_found.Moments.{NamesMoment, is_stamp_byte}

lost : IsFileName (codes "lost+found")
lost = record { bytes = refl; some = omega arith; few = omega arith; no_dots = refl }

-- ---- its last part

stamp_name : (b : ℕ) → is_stamp_byte b ≡ true → is_name_byte b ≡ true
stamp_name b is = grind (arith, nat_tests)

stamp_no_dot : (b : ℕ) → is_stamp_byte b ≡ true → (b == 46) ≡ false
stamp_no_dot b is = grind (arith, nat_tests)

all_names : (bytes : List ℕ) → list_all is_stamp_byte bytes ≡ true → list_all is_name_byte bytes ≡ true
all_names [] all = refl
all_names (b ∷ bytes) all = let parts = and_parts (is_stamp_byte b) (list_all is_stamp_byte bytes) all in and_from _ _ (stamp_name b parts.0) (all_names bytes parts.1)

-- what begins with such a byte is no `.` or `..`
no_dots : (first rest : List ℕ) → 0 < length first → list_all is_stamp_byte first ≡ true → is_dots (first ++ rest) ≡ false
no_dots [] rest some all = absurd (omega (arith, some))
no_dots (b ∷ first) rest some all = go (first ++ rest)
  where
    off : (b == 46) ≡ false
    off = stamp_no_dot b (and_parts (is_stamp_byte b) (list_all is_stamp_byte first) all).0

    go : (bytes : List ℕ) → is_dots (b ∷ bytes) ≡ false
    go [] = off
    go (c ∷ []) = ap (λ (x : Bool). x && (c == 46)) off
    go (c ∷ d ∷ bytes) = refl

last_part : (moment rest : List ℕ) → NamesMoment moment → list_all is_name_byte rest ≡ true → length rest ≤ 21 → IsFileName (moment ++ rest)
last_part moment rest m all few = record {
  bytes = list_all-append is_name_byte moment rest ∙ and_from _ _ (all_names moment m.bytes) all;
  some = omega (arith, length-append moment rest, m.some);
  few = omega (arith, length-append moment rest, m.few, few);
  no_dots = no_dots moment rest m.some m.bytes;
}

-- ---- numbers

digit : (n : ℕ) → n < 10 → is_stamp_byte (48 + n) ≡ true
digit n lt = grind (arith, nat_tests)

all_digits : (n : ℕ) → n < 2 ^ 64 → list_all is_stamp_byte (decimal n) ≡ true
all_digits = decimal_by_steps (λ n ds. list_all is_stamp_byte ds ≡ true)
    (λ n small. and_from _ _ (digit n small) refl)
    (λ n ds large all. list_all-append is_stamp_byte ds ((48 + n % 10) ∷ []) ∙ and_from _ _ all (and_from _ _ (digit (n % 10) (omega arith)) refl))

-- ---- the whole

whole : (moment rest : List ℕ) → NamesMoment moment → list_all is_name_byte rest ≡ true → length rest ≤ 21 → IsPath (lost_front ++ (moment ++ rest))
whole moment rest m all few = joined_path (codes "var" ∷ codes "pkg" ∷ codes "lost+found" ∷ (moment ++ rest) ∷ []) (record { bytes = refl; some = omega arith; few = omega arith; no_dots = refl }, (pkg_name, (lost, last_part moment rest m all few))) (omega (arith, length-append moment rest, m.few, few))

pub root_is_path : (moment : List ℕ) (k : ℕ) → NamesMoment moment → k + 1 < 2 ^ 64 → IsPath (root_name moment k)
root_is_path moment zero m small = subst IsPath (ap (λ (l : List ℕ). lost_front ++ l) (append_none moment)) (whole moment [] m refl (omega arith))
  where
    append_none : (l : List ℕ) → l ++ [] ≡ l
    append_none [] = refl
    append_none (b ∷ l) = ap (λ (r : List ℕ). b ∷ r) (append_none l)
root_is_path moment (suc n) m small = whole moment (46 ∷ decimal (n + 2)) m (all_names (decimal (n + 2)) (all_digits (n + 2) (omega (arith, small)))) (let le = length-decimal-le 20 (n + 2) (omega arith) (omega arith) (omega (arith, small)) in omega (arith, le))
