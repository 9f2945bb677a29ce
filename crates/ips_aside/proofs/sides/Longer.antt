-- A path with more bytes behind it is a path, where it isn't too long.
use Rattle.std.proofs.Common.{◌≡◌, ℕ, ◌<◌, Bool, true, false, ◌==◌, ◌||◌, not, List, [], ◌∷◌, ◌++◌, length, nat_lt, refl, sym, ◌∙◌, ap, arith}
use Rattle.std.specs.List.{All, list_all, list_any, onto_first}
use Rattle.std.proofs.lemmas.Bool.{eqb-true, false≢true, false_from_ne_true, ltb-true}
use Rattle.std.proofs.lemmas.List.{length-append}
use Rattle.std.proofs.lemmas.List.Folds.{list_any-append}
use Rattle.std.proofs.lemmas.List.Splits.{slice_split-cons_no, slice_split-cons_yes, slice_split_none}
use Rattle.std.proofs.lemmas.List.Sums.{AllPass-from_list_all}
use Rattle.std.proofs.lemmas.Str.{IsUtf8-append, IsUtf8-from_ascii}
use Rattle.std.proofs.lemmas.Str.Ascii.{IsAscii-from_all}
use Rattle.std.specs.Str.{IsUtf8}
use Rattle.ips_text.proofs.Truths.{not_true}
use Rattle.ips_text.specs.Path.{Has, IsPath, begins_at_root, is_dots, is_nothing, parts}
use Rattle.ips_text.specs.declared.path.PathFault.TheVariants.{Empty, Absolute, DotPart, EmptyPart, NulByte, NotText, TooLong}

-- ---- bytes in the last part

-- What is put behind a path in its last part: at least three bytes of ASCII, neither `/` nor NUL among them.
pub record IsEnding (s : List ℕ) : Type 0 where
  pub no_slash : list_all (λ b. not (b == 47)) s ≡ true
  pub no_nul : list_any (λ b. b == 0) s ≡ false
  pub ascii : list_all (λ b. nat_lt b 128) s ≡ true
  pub three : 2 < length s

-- The parts of bytes, with more bytes behind them in the last one.
record IsGrown (p s : List ℕ) : Type 0 where
  pub init : List (List ℕ)
  pub last : List ℕ
  pub before : parts p ≡ init ++ last ∷ []
  pub after : parts (p ++ s) ≡ init ++ (last ++ s) ∷ []

onto_last : (b : ℕ) (p s : List ℕ) (init : List (List ℕ)) (last : List ℕ) → parts (b ∷ p) ≡ onto_first b (init ++ last ∷ []) → parts (b ∷ (p ++ s)) ≡ onto_first b (init ++ (last ++ s) ∷ []) → IsGrown (b ∷ p) s
onto_last b p s [] last before after = record { init = []; last = b ∷ last; before = before; after = after }
onto_last b p s (x ∷ init) last before after = record { init = (b ∷ x) ∷ init; last = last; before = before; after = after }

grown : (p s : List ℕ) → All (λ b. (b == 47) ≡ false) s → IsGrown p s
grown [] s none = record { init = []; last = []; before = refl; after = slice_split_none (λ b. b == 47) s none }
grown (b ∷ p) s none = go (b == 47) refl (grown p s none)
  where
    go : (t : Bool) → (b == 47) ≡ t → IsGrown p s → IsGrown (b ∷ p) s
    go true e g = record {
      init = [] ∷ g.init;
      last = g.last;
      before = slice_split-cons_yes (λ c. c == 47) b p e ∙ ap (λ (l : List (List ℕ)). [] ∷ l) g.before;
      after = slice_split-cons_yes (λ c. c == 47) b (p ++ s) e ∙ ap (λ (l : List (List ℕ)). [] ∷ l) g.after;
    }
    go false e g = onto_last b p s g.init g.last (slice_split-cons_no (λ c. c == 47) b p e ∙ ap (onto_first b) g.before) (slice_split-cons_no (λ c. c == 47) b (p ++ s) e ∙ ap (onto_first b) g.after)

-- a test that fails at each part, and at each part with that ending, fails at each part of the whole
none_grown : (test : List ℕ → Bool) (p s : List ℕ) → IsGrown p s → list_any test (parts p) ≡ false → ((x : List ℕ) → test (x ++ s) ≡ false) → list_any test (parts (p ++ s)) ≡ false
none_grown test p s g none ending =
    ap (list_any test) g.after ∙ list_any-append test g.init ((g.last ++ s) ∷ []) ∙ ap (λ (b : Bool). b || (test (g.last ++ s) || false)) (first_none (list_any test g.init) (test g.last || false) whole) ∙ ap (λ (b : Bool). b || false) (ending g.last)
  where
    whole : (list_any test g.init || (test g.last || false)) ≡ false
    whole = sym (list_any-append test g.init (g.last ∷ [])) ∙ sym (ap (list_any test) g.before) ∙ none

    first_none : (a b : Bool) → (a || b) ≡ false → a ≡ false
    first_none true b e = cc
    first_none false b e = refl

no_dots : (x s : List ℕ) → 2 < length s → is_dots (x ++ s) ≡ false
no_dots x s three = go (x ++ s) (omega (arith, three, length-append x s))
  where
    go : (l : List ℕ) → 2 < length l → is_dots l ≡ false
    go [] lt = absurd (omega (arith, lt))
    go (a ∷ []) lt = absurd (omega (arith, lt))
    go (a ∷ b ∷ []) lt = absurd (omega (arith, lt))
    go (a ∷ b ∷ c ∷ l) lt = refl

some_bytes : (x s : List ℕ) → 2 < length s → is_nothing (x ++ s) ≡ false
some_bytes x s three = false_from_ne_true (is_nothing (x ++ s)) (λ e. omega (arith, three, length-append x s, eqb-true (length (x ++ s)) 0 e))

same_start : (p s : List ℕ) → (is_nothing p ≡ true → ⊥) → begins_at_root (p ++ s) ≡ begins_at_root p
same_start [] s some = absurd (some refl)
same_start (b ∷ p) s some = refl

ascii_text : (s : List ℕ) → list_all (λ b. nat_lt b 128) s ≡ true → IsUtf8 s
ascii_text s h = IsUtf8-from_ascii s (IsAscii-from_all s (λ k d lt. ltb-true _ 128 (AllPass-from_list_all (λ b. nat_lt b 128) s h k d lt)))

none_of : (t : Bool) → (t ≡ true → ⊥) → t ≡ false
none_of t = false_from_ne_true t

pub ended_path : (p s : List ℕ) → IsPath p → IsEnding s → (Has TooLong (p ++ s) → ⊥) → IsPath (p ++ s)
ended_path p s path ending fits Empty e = false≢true (sym (some_bytes p s ending.three) ∙ e)
ended_path p s path ending fits Absolute e = path Absolute (sym (same_start p s (path Empty)) ∙ e)
ended_path p s path ending fits DotPart e =
    let g = grown p s (λ k d lt. not_true _ (AllPass-from_list_all (λ b. not (b == 47)) s ending.no_slash k d lt)) in
    false≢true (sym (none_grown is_dots p s g (none_of (list_any is_dots (parts p)) (path DotPart)) (λ x. no_dots x s ending.three)) ∙ e)
ended_path p s path ending fits EmptyPart e =
    let g = grown p s (λ k d lt. not_true _ (AllPass-from_list_all (λ b. not (b == 47)) s ending.no_slash k d lt)) in
    false≢true (sym (none_grown is_nothing p s g (none_of (list_any is_nothing (parts p)) (path EmptyPart)) (λ x. some_bytes x s ending.three)) ∙ e)
ended_path p s path ending fits NulByte e =
    let none = none_of (list_any (λ b. b == 0) p) (path NulByte) in
    false≢true (sym (list_any-append (λ b. b == 0) p s ∙ ap (λ (b : Bool). b || list_any (λ c. c == 0) s) none ∙ ending.no_nul) ∙ e)
ended_path p s path ending fits NotText e = path NotText (λ text. e (IsUtf8-append p s text (ascii_text s ending.ascii)))
ended_path p s path ending fits TooLong e = fits e
