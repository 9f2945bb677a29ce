-- The lines of a text, read from its front.
use Rattle.std.proofs.Common.{◌≡◌, ℕ, zero, suc, ◌+◌, ◌<◌, Bool, true, false, not, cond, ◌||◌, eqb, ltb, List, [], ◌∷◌, ◌++◌, length, get_or, take, drop, Option, Some, None, refl, sym, ap, ◌∙◌, arith}
use Rattle.std.specs.List.{list_any, position, position_or_len}
use Rattle.std.proofs.lemmas.Bool.{eqb-true, or_parts}
use Rattle.std.proofs.lemmas.List.{append-nil, append_assoc, take-append-drop, drop_more, nil_from_length}
use Rattle.std.proofs.lemmas.List.Quantifiers.{position-Some}
use Rattle.std.proofs.lemmas.Bool.Decides.{nat_tests}
use Rattle.ips_books.specs.Lines.{AccountLine, onto_line, account_lines}

-- ---- the first that passes

pub none_before : {X : Type 0} (p : X → Bool) (xs : List X) (i : ℕ) (d : X) → i < length xs → ((k : ℕ) → k < i → p (get_or xs k d) ≡ false) → list_any p (take i xs) ≡ false
none_before p [] i d lt fails = absurd (omega (arith, lt))
none_before p (x ∷ xs) zero d lt fails = refl
none_before p (x ∷ xs) (suc i) d lt fails = ap (λ (t : Bool). t || list_any p (take i xs)) (fails 0 (omega arith)) ∙ none_before p xs i d (omega (arith, lt)) (λ k h. fails (suc k) (omega (arith, h)))

lt_first : (n : ℕ) → ltb 0 (suc n) ≡ true
lt_first n = grind (arith, nat_tests)

lt_next : (k n : ℕ) → ltb (1 + k) (suc n) ≡ ltb k n
lt_next k n = grind (arith, nat_tests)

-- some element passes exactly where there is a first that does
pub any_first : {X : Type 0} (p : X → Bool) (xs : List X) → list_any p xs ≡ ltb (position_or_len p xs) (length xs)
any_first p [] = refl
any_first p (x ∷ xs) = go (p x) (any_first p xs)
  where
    go : (t : Bool) → list_any p xs ≡ ltb (position_or_len p xs) (length xs) → (t || list_any p xs) ≡ ltb (cond (not t) (1 + position_or_len p xs) 0) (suc (length xs))
    go true e = sym (lt_first (length xs))
    go false e = e ∙ sym (lt_next (position_or_len p xs) (length xs))

no_first : (t : Bool) (i : ℕ) → (let o : Option ℕ = cond t (Some i) None in o) ≡ None → t ≡ false
no_first true i e = cc
no_first false i e = refl

pub none_first : {X : Type 0} (p : X → Bool) (xs : List X) → position p xs ≡ None → list_any p xs ≡ false
none_first p xs e = any_first p xs ∙ no_first (ltb (position_or_len p xs) (length xs)) (position_or_len p xs) e

-- ---- a newline

pub cut_at : (text : List ℕ) (i : ℕ) → position (λ b. eqb b 10) text ≡ Some i → text ≡ take i text ++ 10 ∷ drop (i + 1) text
cut_at text i e =
    let first = position-Some (λ b. eqb b 10) text i 0 e in
    sym (take-append-drop i text) ∙ ap (λ (l : List ℕ). take i text ++ l) (drop_more text i 0 first.0 ∙ ap (λ (b : ℕ). b ∷ drop (i + 1) text) (eqb-true (get_or text i 0) 10 first.1))

pub before_cut : (text : List ℕ) (i : ℕ) → position (λ b. eqb b 10) text ≡ Some i → list_any (λ b. eqb b 10) (take i text) ≡ false
before_cut text i e =
    let first = position-Some (λ b. eqb b 10) text i 0 e in
    none_before (λ b. eqb b 10) text i 0 first.0 first.2

-- ---- lines

lines_front : (front rest : List ℕ) → list_any (λ b. eqb b 10) front ≡ false → account_lines (front ++ 10 ∷ rest) ≡ record { text = front; ended = true } ∷ account_lines rest
lines_front [] rest e = refl
lines_front (b ∷ front) rest e =
    let parts = or_parts (eqb b 10) (list_any (λ b. eqb b 10) front) e in
    ap (λ (t : Bool). cond t (record { text = []; ended = true } ∷ account_lines (front ++ 10 ∷ rest)) (onto_line b (account_lines (front ++ 10 ∷ rest)))) parts.0
    ∙ ap (onto_line b) (lines_front front rest parts.1)

lines_last : (b : ℕ) (rest : List ℕ) → list_any (λ b. eqb b 10) (b ∷ rest) ≡ false → account_lines (b ∷ rest) ≡ record { text = b ∷ rest; ended = false } ∷ []
lines_last b [] e = ap (λ (t : Bool). cond t (record { text = []; ended = true } ∷ []) (onto_line b [])) (or_parts (eqb b 10) false e).0
lines_last b (c ∷ rest) e =
    let parts = or_parts (eqb b 10) (list_any (λ b. eqb b 10) (c ∷ rest)) e in
    ap (λ (t : Bool). cond t (record { text = []; ended = true } ∷ account_lines (c ∷ rest)) (onto_line b (account_lines (c ∷ rest)))) parts.0
    ∙ ap (onto_line b) (lines_last c rest parts.1)

-- what was read, with the lines of what is left
pub read_more : (text rest front behind : List ℕ) (lines new : List AccountLine) (line : AccountLine) → lines ++ account_lines rest ≡ account_lines text → rest ≡ front ++ 10 ∷ behind → list_any (λ b. eqb b 10) front ≡ false
    → line ≡ record { text = front; ended = true } → new ≡ lines ++ line ∷ [] → new ++ account_lines behind ≡ account_lines text
read_more text rest front behind lines new line so_far cut first is pushed =
    ap (λ (l : List AccountLine). l ++ account_lines behind) pushed
    ∙ append_assoc lines (line ∷ []) (account_lines behind)
    ∙ ap (λ (l : AccountLine). lines ++ l ∷ account_lines behind) is
    ∙ ap (λ (l : List AccountLine). lines ++ l) (sym (lines_front front behind first) ∙ ap account_lines (sym cut))
    ∙ so_far

pub read_last : (text rest : List ℕ) (lines new : List AccountLine) (line : AccountLine) → lines ++ account_lines rest ≡ account_lines text → list_any (λ b. eqb b 10) rest ≡ false → eqb (length rest) 0 ≡ false
    → line ≡ record { text = rest; ended = false } → new ≡ lines ++ line ∷ [] → new ≡ account_lines text
read_last text [] lines new line so_far first some is pushed = absurd (cc)
read_last text (b ∷ rest) lines new line so_far first some is pushed =
    pushed ∙ ap (λ (l : AccountLine). lines ++ l ∷ []) is ∙ ap (λ (l : List AccountLine). lines ++ l) (sym (lines_last b rest first)) ∙ so_far

pub read_all : (text rest : List ℕ) (lines : List AccountLine) → lines ++ account_lines rest ≡ account_lines text → eqb (length rest) 0 ≡ true → lines ≡ account_lines text
read_all text rest lines so_far none =
    sym (append-nil lines) ∙ ap (λ (l : List ℕ). lines ++ account_lines l) (sym (nil_from_length rest (eqb-true (length rest) 0 none))) ∙ so_far
