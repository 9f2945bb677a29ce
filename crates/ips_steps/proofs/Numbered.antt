-- Paths that end in a number: none is at or above another.
use Rattle.std.proofs.Common.{◌≡◌, ℕ, ◌+◌, ◌%◌, ◌^◌, ◌<◌, Bool, true, false, cond, ◌||◌, ◌==◌, if◌then◌else◌, zero, suc, ◌/◌, List, [], ◌∷◌, ◌++◌, Some, None, refl, sym, ap, ◌∙◌, arith}
use Rattle.std.proofs.lemmas.Bool.{and_parts, or_parts, or_from, eqb-true, ne_eqb, false_from_ne_true, lt-ltb}
use Rattle.std.proofs.lemmas.Fmt.{decimal_injective}
use Rattle.std.specs.Fmt.{decimal, digits, digits_onto, digit_glyph}
use Rattle.ips_text.specs.Ancestry.{covers, parent, behind}
use Rattle.ips_steps.specs.Steps.{stage_name, stage_path}
use Rattle.ips_steps.specs.Private.{mark_front, mark_name, begins}
use Rattle.ips_steps.proofs.Lists.{clash}

-- a byte is `/`
abbrev cut : List ℕ → Bool
cut [] = false
cut (b ∷ bytes) = (b == 47) || cut bytes

not_cut : (n : ℕ) → (48 + n == 47) ≡ false
not_cut n = ne_eqb (48 + n) 47 (λ e. omega (arith, e))

small_digit : (n : ℕ) → (digit_glyph false (n % 10) == 47) ≡ false
small_digit n = rw (lt-ltb (n % 10) 10 (omega arith)) (not_cut (n % 10))

either_whole : (last : Bool) (a b : List ℕ) → cut a ≡ false → cut b ≡ false → cut (if last then a else b) ≡ false
either_whole true a b wa wb = wa
either_whole false a b wa wb = wb

digits_whole : (k n : ℕ) (acc : List ℕ) → cut acc ≡ false → cut (digits_onto k 10 false n acc) ≡ false
digits_whole zero n acc whole = whole
digits_whole (suc k) n acc whole =
    let more : cut (digit_glyph false (n % 10) ∷ acc) ≡ false = or_from _ _ (small_digit n) whole in
    either_whole (n / 10 == 0) _ _ more (digits_whole k (n / 10) (digit_glyph false (n % 10) ∷ acc) more)

number_whole : (n : ℕ) → cut (decimal n) ≡ false
unfolding digits
number_whole n = digits_whole 64 n [] refl

covers_whole : (p q : List ℕ) → covers p q ≡ true → cut q ≡ false → p ≡ q
covers_whole [] [] c whole = refl
covers_whole [] (b ∷ q) c whole = clash (b == 47) c (or_parts (b == 47) (cut q) whole).0
covers_whole (a ∷ p) [] c whole = cc
covers_whole (a ∷ p) (b ∷ q) c whole =
    let parts = and_parts (a == b) (covers p q) c in
    let first = eqb-true a b parts.0 in
    let rest = covers_whole p q parts.1 (or_parts (b == 47) (cut q) whole).1 in
    cc

covers_behind : (f p q : List ℕ) → covers (f ++ p) (f ++ q) ≡ true → covers p q ≡ true
covers_behind [] p q c = c
covers_behind (a ∷ f) p q c = covers_behind f p q (and_parts (a == a) _ c).1

numbers_apart : (m n : ℕ) → m < 2 ^ 64 → n < 2 ^ 64 → (m ≡ n → ⊥) → covers (decimal m) (decimal n) ≡ true → ⊥
numbers_apart m n lm ln apart c = apart (decimal_injective m n lm ln (covers_whole (decimal m) (decimal n) c (number_whole n)))

pub marks_apart : (m n : ℕ) → m < 2 ^ 64 → n < 2 ^ 64 → (m ≡ n → ⊥) → covers (mark_name m) (mark_name n) ≡ false
marks_apart m n lm ln apart = false_from_ne_true _ (λ c. numbers_apart m n lm ln apart (covers_behind mark_front (decimal m) (decimal n) c))

-- what begins as the names of marks do, and is at or above a mark's name, is that name
covers_front : (f p q : List ℕ) → begins f p ≡ true → covers p (f ++ q) ≡ true → cut q ≡ false → p ≡ f ++ q
covers_front [] p q b c whole = covers_whole p q c whole
covers_front (a ∷ f) [] q b c whole = cc
covers_front (a ∷ f) (d ∷ p) q b c whole =
    let first : d ≡ a = sym (eqb-true a d (and_parts _ _ b).0) in
    ap (λ (n : ℕ). n ∷ p) first ∙ ap (λ (l : List ℕ). a ∷ l) (covers_front f p q (and_parts _ _ b).1 (and_parts _ _ c).1 whole)

pub one_mark : (p : List ℕ) (n : ℕ) → begins mark_front p ≡ true → covers p (mark_name n) ≡ true → p ≡ mark_name n
one_mark p n b c = covers_front mark_front p (decimal n) b c (number_whole n)

pub contents_apart : (m n : ℕ) → m < 2 ^ 64 → n < 2 ^ 64 → (m ≡ n → ⊥) → covers (stage_path m) (stage_path n) ≡ false
contents_apart m n lm ln apart = false_from_ne_true _ (λ c. numbers_apart m n lm ln apart (covers_behind stage_name (47 ∷ decimal m) (47 ∷ decimal n) c))

-- ---- the folder of the contents

parent_whole : (q : List ℕ) → cut q ≡ false → parent q ≡ None
parent_whole [] whole = refl
parent_whole (b ∷ q) whole =
    let parts = or_parts (b == 47) (cut q) whole in
    ap (behind b) (parent_whole q parts.1) ∙ ap (λ (x : Bool). cond x (Some []) None) parts.0

parent_before : (p q : List ℕ) → cut q ≡ false → parent (p ++ 47 ∷ q) ≡ Some p
parent_before [] q whole = ap (behind 47) (parent_whole q whole)
parent_before (a ∷ p) q whole = ap (behind a) (parent_before p q whole)

pub content_parent : (n : ℕ) → parent (stage_path n) ≡ Some stage_name
content_parent n = parent_before stage_name (decimal n) (number_whole n)

pub content_covered : (n : ℕ) → covers stage_name (stage_path n) ≡ true
unfolding stage_name
content_covered n = refl

pub content_above : (n : ℕ) → covers (stage_path n) stage_name ≡ false
unfolding stage_name
content_above n = refl
