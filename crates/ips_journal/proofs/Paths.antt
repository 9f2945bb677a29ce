-- Parents of paths, and the files of contents, are paths.
use lib.Chars.{codes}
use Rattle.std.proofs.Common.{◌≡◌, ℕ, ◌+◌, ◌^◌, ◌<◌, ◌≤◌, Bool, true, false, cond, ◌==◌, eqb, ltb, List, [], ◌∷◌, ◌++◌, length, Option, Some, None, IsUtf8, ⊎_elim, take, drop, refl, sym, ap, ◌∙◌, subst, arith, length-append}
use Rattle.std.specs.List.{list_any, list_all, AllByRecursion}
use Rattle.std.specs.Fmt.{decimal}
use Rattle.std.specs.Char.{digit_value}
use Rattle.std.specs.Str.Parse.{AllDigits}
use Rattle.std.proofs.lemmas.Bool.{eqb-true, false≢true, false_from_ne_true}
use borrow.Author.Tests.{ltb-true}
use Rattle.std.proofs.lemmas.Bool.Decides.{nat_tests}
use Rattle.std.proofs.lemmas.Fmt.{decimal_is_IsNumeral}
use Rattle.std.proofs.lemmas.Str.{IsUtf8-append}
use borrow.Rule.Slice.PartMut.{put_mid}
use Rattle.std.proofs.lemmas.Slice.{take-put_mid}
use Rattle.ips_text.specs.Path.{IsPath, parts, is_dots, is_nothing, is_long}
use Rattle.ips_text.specs.declared.path.PathFault.TheVariants.{Empty, Absolute, DotPart, EmptyPart, NulByte, NotText, TooLong}
use Rattle.ips_text.specs.Ancestry.{parent, behind}
use Rattle.ips_steps.specs.Steps.{stage_name, stage_path}
use Rattle.ips_journal.proofs.FieldForms.{number_long}
use Rattle.ips_text.proofs.Fronts.{ascii_text, front_path}

-- ---- parts

-- a path ends with its parent, a `/` and its last part
parent_parts : (p q : List ℕ) → parent p ≡ Some q → (last : List ℕ) × (p ≡ q ++ 47 ∷ last)
parent_parts [] q e = absurd cc
parent_parts (a ∷ p) q e = go (parent_parts p) (parent p) refl e
  where
    root : (t : Bool) → eqb a 47 ≡ t → cond t (Some []) None ≡ Some q → (last : List ℕ) × (a ∷ p ≡ q ++ 47 ∷ last)
    root true is e = let none : q ≡ [] = cc in (p, rw none (ap (λ (x : ℕ). x ∷ p) (eqb-true a 47 is)))
    root false is e = absurd cc

    go : ((r : List ℕ) → parent p ≡ Some r → (last : List ℕ) × (p ≡ r ++ 47 ∷ last)) → (o : Option (List ℕ)) → parent p ≡ o → behind a o ≡ Some q → (last : List ℕ) × (a ∷ p ≡ q ++ 47 ∷ last)
    go shorter (Some r) is e =
        let shape : q ≡ a ∷ r = cc in
        let later = shorter r is in
        (later.0, rw shape (ap (λ (l : List ℕ). a ∷ l) later.1))
    go shorter None is e = root (eqb a 47) refl e

-- the parent of a path is one
pub parent_path : (p q : List ℕ) → IsPath p → parent p ≡ Some q → IsPath q
parent_path p q h e = let w = parent_parts p q e in front_path q w.0 (subst IsPath w.1 h)

-- ---- the file of a content

-- a decimal digit
abbrev IsDigit : ℕ → Type 0
IsDigit b = (48 ≤ b) × (b ≤ 57)

digits_are : (ds : List ℕ) → AllDigits 10 ds → AllByRecursion IsDigit ds
digits_are [] h = tt
digits_are (d ∷ ds) h = (digit d h.0, digits_are ds h.1)
  where
    digit : (d : ℕ) → digit_value d < 10 → IsDigit d
    digit d lt = (grind arith, grind arith)

number_digits : (n : ℕ) → n < 2 ^ 64 → AllByRecursion IsDigit (decimal n)
number_digits n lt = digits_are (decimal n) (decimal_is_IsNumeral n lt).0.1

number_there : (n : ℕ) → n < 2 ^ 64 → 0 < length (decimal n)
number_there n lt = (decimal_is_IsNumeral n lt).0.0

digits_low : (ds : List ℕ) → AllByRecursion IsDigit ds → list_all (λ b. ltb b 128) ds ≡ true
digits_low [] h = refl
digits_low (d ∷ ds) h = rw (low d h.0, digits_low ds h.1) refl
  where
    low : (d : ℕ) → IsDigit d → ltb d 128 ≡ true
    low d h = grind (arith, nat_tests)

digits_whole : (ds : List ℕ) → AllByRecursion IsDigit ds → parts ds ≡ ds ∷ []
digits_whole [] h = refl
digits_whole (d ∷ ds) h = rw (other d h.0, digits_whole ds h.1) refl
  where
    other : (d : ℕ) → IsDigit d → eqb d 47 ≡ false
    other d h = grind (arith, nat_tests)

digits_no_nul : (ds : List ℕ) → AllByRecursion IsDigit ds → list_any (λ b. b == 0) ds ≡ false
digits_no_nul [] h = refl
digits_no_nul (d ∷ ds) h = rw (other d h.0, digits_no_nul ds h.1) refl
  where
    other : (d : ℕ) → IsDigit d → eqb d 0 ≡ false
    other d h = grind (arith, nat_tests)

digits_no_dots : (ds : List ℕ) → AllByRecursion IsDigit ds → is_dots ds ≡ false
digits_no_dots [] h = refl
digits_no_dots (b ∷ []) h = no_dot b h.0
  where
    no_dot : (d : ℕ) → IsDigit d → eqb d 46 ≡ false
    no_dot d h = grind (arith, nat_tests)
digits_no_dots (b ∷ c ∷ []) h = rw (no_dot b h.0) refl
  where
    no_dot : (d : ℕ) → IsDigit d → eqb d 46 ≡ false
    no_dot d h = grind (arith, nat_tests)
digits_no_dots (b ∷ c ∷ d ∷ ds) h = refl

module _ (n : ℕ) (lt : n < 2 ^ 64) where
  stage_parts : parts (stage_path n) ≡ codes "var" ∷ codes "pkg" ∷ codes "stage" ∷ decimal n ∷ []
  unfolding stage_name
  stage_parts = ap (λ (l : List (List ℕ)). codes "var" ∷ codes "pkg" ∷ codes "stage" ∷ l) (digits_whole (decimal n) (number_digits n lt))

  stage_any : (test : List ℕ → Bool) → test (codes "var") ≡ false → test (codes "pkg") ≡ false → test (codes "stage") ≡ false → test (decimal n) ≡ false → list_any test (parts (stage_path n)) ≡ false
  stage_any test a b d e = ap (list_any test) stage_parts ∙ rw (a, b, d, e) refl

  number_not_nothing : is_nothing (decimal n) ≡ false
  number_not_nothing = false_from_ne_true (is_nothing (decimal n)) (λ e. omega (arith, number_there n lt, eqb-true (length (decimal n)) 0 e))

  number_not_long : is_long (decimal n) ≡ false
  number_not_long = false_from_ne_true (is_long (decimal n)) (λ e. omega (arith, number_long n lt, ltb-true 255 (length (decimal n)) e))

  stage_text : IsUtf8 (stage_path n)
  unfolding stage_name
  stage_text = IsUtf8-append (codes "var/pkg/stage/") (decimal n) (ascii_text (codes "var/pkg/stage/") refl) (ascii_text (decimal n) (digits_low (decimal n) (number_digits n lt)))

  -- the path of a content's file is a path
  pub stage_is_path : IsPath (stage_path n)
  unfolding stage_name
  stage_is_path Empty e = let none = eqb-true (length (stage_path n)) 0 e in omega arith
  stage_is_path Absolute e = false≢true e
  stage_is_path DotPart e = false≢true (sym (stage_any is_dots refl refl refl (digits_no_dots (decimal n) (number_digits n lt))) ∙ e)
  stage_is_path EmptyPart e = false≢true (sym (stage_any is_nothing refl refl refl number_not_nothing) ∙ e)
  stage_is_path NulByte e = false≢true (sym (digits_no_nul (decimal n) (number_digits n lt)) ∙ e)
  stage_is_path NotText e = e stage_text
  stage_is_path TooLong e = ⊎_elim (λ long. omega (arith, number_long n lt)) (λ part. false≢true (sym (stage_any is_long refl refl refl number_not_long) ∙ part)) e

pub stage_written : (n k : ℕ) (first second bytes digits : List ℕ) → first ≡ codes "var/pkg/stage/" → second ≡ digits → digits ≡ decimal n
    → take (14 + length digits) (put_mid 14 k (first ++ drop 14 bytes) second) ≡ stage_path n
unfolding stage_name
stage_written n k first second bytes digits f s d =
    take-put_mid 14 k (first ++ drop 14 bytes) second (14 + length digits) (omega (arith, ap length s)) (omega (arith, length-append first (drop 14 bytes), ap length f)) ∙ rw (f, s, d) refl
