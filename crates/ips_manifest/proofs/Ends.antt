-- How a line ends, and where its first character stands.
use Rattle.std.proofs.Common.{◌≡◌, ℕ, zero, suc, ◌+◌, ◌-◌, ◌<◌, ◌≤◌, Bool, true, false, cond, eqb, List, [], ◌∷◌, length, take, drop, get_or, refl, sym, ap, ◌∙◌, arith}
use Rattle.std.proofs.lemmas.Bool.{eq-eqb, true≢false, eqb-true}
use Rattle.std.proofs.Math.Dec.{eqb-suc-zero}
use Rattle.std.specs.Str.{IsCharBoundary}
use Rattle.std.proofs.lemmas.Str.{IsCharBoundary-before_ascii}
use Rattle.ips_manifest.specs.Logical.{continues, without_last, is_blank, is_skipped}

pub empty_ends : (line : List ℕ) → eqb (length line) 0 ≡ true → continues line ≡ false
empty_ends [] e = refl
empty_ends (b ∷ line) e = absurd (true≢false (sym e ∙ eqb-suc-zero (length line)))

last_byte : (b : ℕ) (line : List ℕ) → continues (b ∷ line) ≡ eqb (get_or (b ∷ line) (length line) 0) 92
last_byte b [] = refl
last_byte b (c ∷ line) = last_byte c line

last_front : (b : ℕ) (line : List ℕ) → take (length line) (b ∷ line) ≡ without_last (b ∷ line)
last_front b [] = refl
last_front b (c ∷ line) = ap (λ (l : List ℕ). b ∷ l) (last_front c line)

pub ends_told : (line : List ℕ) → (length line ≡ 0 → ⊥) → continues line ≡ eqb (get_or line (length line - 1) 0) 92
ends_told [] some = absurd (some refl)
ends_told (b ∷ line) some = let at : length (b ∷ line) - 1 ≡ length line = omega arith in last_byte b line ∙ ap (λ (n : ℕ). eqb (get_or (b ∷ line) n 0) 92) (sym at)

pub front_told : (line : List ℕ) → take (length line - 1) line ≡ without_last line
front_told [] = refl
front_told (b ∷ line) = let at : length (b ∷ line) - 1 ≡ length line = omega arith in ap (λ (n : ℕ). take n (b ∷ line)) at ∙ last_front b line

-- ---- the first character

drop_next : (line : List ℕ) (i : ℕ) → i < length line → drop i line ≡ get_or line i 0 ∷ drop (i + 1) line
drop_next line i lt = let one : i + 1 ≡ suc i = omega arith in go line i lt ∙ ap (λ (n : ℕ). get_or line i 0 ∷ drop n line) (sym one)
  where
    go : (line : List ℕ) (i : ℕ) → i < length line → drop i line ≡ get_or line i 0 ∷ drop (suc i) line
    go [] i lt = absurd (omega arith)
    go (b ∷ line) zero lt = refl
    go (b ∷ line) (suc i) lt = go line i (omega arith)

pub skip_blank : (line : List ℕ) (i : ℕ) → i < length line → is_blank (get_or line i 0) ≡ true → is_skipped (drop (i + 1) line) ≡ is_skipped (drop i line)
skip_blank line i lt blank = sym (ap is_skipped (drop_next line i lt) ∙ ap (λ (b : Bool). cond b (is_skipped (drop (i + 1) line)) (eqb (get_or line i 0) 35)) blank)

pub skip_first : (line : List ℕ) (i : ℕ) → i < length line → is_blank (get_or line i 0) ≡ false → eqb (get_or line i 0) 35 ≡ is_skipped (drop i line)
skip_first line i lt some = sym (ap is_skipped (drop_next line i lt) ∙ ap (λ (b : Bool). cond b (is_skipped (drop (i + 1) line)) (eqb (get_or line i 0) 35)) some)

pub skip_all : (line : List ℕ) (i : ℕ) → length line ≤ i → is_skipped (drop i line) ≡ true
skip_all [] zero le = refl
skip_all [] (suc i) le = refl
skip_all (b ∷ line) zero le = absurd (omega arith)
skip_all (b ∷ line) (suc i) le = skip_all line i (omega arith)

pub some_left : (line : List ℕ) → eqb (length line) 0 ≡ false → length line ≡ 0 → ⊥
some_left line e h = true≢false (sym (eq-eqb (length line) 0 h) ∙ e)

pub ends_some : (line : List ℕ) → continues line ≡ true → 1 ≤ length line
ends_some [] h = absurd (true≢false (sym h))
ends_some (b ∷ line) h = omega arith

-- before the backslash at its end a line may be cut
pub ends_cut : (line : List ℕ) → continues line ≡ true → IsCharBoundary line (length line - 1)
ends_cut line h =
    let some = ends_some line h in
    let byte = eqb-true (get_or line (length line - 1) 0) 92 (sym (ends_told line (λ e. absurd (omega arith))) ∙ h) in
    IsCharBoundary-before_ascii line (length line - 1) (omega arith) (omega arith)
