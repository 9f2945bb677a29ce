-- Lines and parts that are written.
use Rattle.std.proofs.Common.{◌≡◌, ℕ, zero, suc, ◌+◌, ◌<◌, Bool, true, false, not, cond, ◌||◌, eqb, List, [], ◌∷◌, ◌++◌, length, get_or, set, take, drop, map, Some, None, refl, sym, ap, ◌∙◌, arith}
use Rattle.std.specs.List.{list_any, position, join_with_byte, insert}
use Rattle.std.proofs.lemmas.List.{append_assoc, map-append, take-map, drop-map}
use Rattle.std.proofs.lemmas.List.Folds.{list_any_at}
use Rattle.std.proofs.lemmas.List.Quantifiers.{position-Some}
use Rattle.ips_books.specs.Lines.{AccountLine}
use Rattle.ips_books.specs.Accounts.{is_of}
use Rattle.ips_books.specs.Writing.{at_first, rewritten, with_line, added}
use Rattle.ips_books.proofs.Read.{none_first}

-- ---- the first line that passes

first_set : (p : AccountLine → Bool) (f : AccountLine → AccountLine) (lines : List AccountLine) (i : ℕ) (d : AccountLine) → i < length lines → p (get_or lines i d) ≡ true → ((k : ℕ) → k < i → p (get_or lines k d) ≡ false) → at_first p f lines ≡ set lines i (f (get_or lines i d))
first_set p f [] i d lt passes fails = absurd (omega (arith, lt))
first_set p f (l ∷ lines) zero d lt passes fails = ap (λ (t : Bool). cond t (f l ∷ lines) (l ∷ at_first p f lines)) passes
first_set p f (l ∷ lines) (suc i) d lt passes fails =
    ap (λ (t : Bool). cond t (f l ∷ lines) (l ∷ at_first p f lines)) (fails 0 (omega arith))
    ∙ ap (λ (ls : List AccountLine). l ∷ ls) (first_set p f lines i d (omega (arith, lt)) passes (λ k h. fails (suc k) (omega (arith, h))))

pub first_at : (p : AccountLine → Bool) (f : AccountLine → AccountLine) (lines : List AccountLine) (i : ℕ) (line : AccountLine) → position p lines ≡ Some i → line ≡ get_or lines i line → at_first p f lines ≡ set lines i (f line)
first_at p f lines i line e is =
    let first = position-Some p lines i line e in
    first_set p f lines i line first.0 first.1 first.2 ∙ ap (λ (l : AccountLine). set lines i (f l)) (sym is)

-- where none passes, the lines stay
pub first_none : (p : AccountLine → Bool) (f : AccountLine → AccountLine) (lines : List AccountLine) → list_any p lines ≡ false → at_first p f lines ≡ lines
first_none p f [] e = refl
first_none p f (l ∷ lines) e = go (p l) (first_none p f lines) e
  where
    go : (t : Bool) → (list_any p lines ≡ false → at_first p f lines ≡ lines) → (t || list_any p lines) ≡ false → cond t (f l ∷ lines) (l ∷ at_first p f lines) ≡ l ∷ lines
    go true rest e = absurd (cc)
    go false rest e = ap (λ (ls : List AccountLine). l ∷ ls) (rest e)

pub put_first : (name text : List ℕ) (lines : List AccountLine) (i : ℕ) (line : AccountLine) → position (is_of name) lines ≡ Some i → line ≡ get_or lines i line → with_line name text lines ≡ set lines i (rewritten text line)
put_first name text lines i line e is =
    let first = position-Some (is_of name) lines i line e in
    ap (λ (t : Bool). cond t (at_first (is_of name) (rewritten text) lines) (added text lines)) (list_any_at (is_of name) lines i line first.0 first.1)
    ∙ first_at (is_of name) (rewritten text) lines i line e is

pub put_none : (name text : List ℕ) (lines : List AccountLine) → position (is_of name) lines ≡ None → with_line name text lines ≡ added text lines
put_none name text lines e = ap (λ (t : Bool). cond t (at_first (is_of name) (rewritten text) lines) (added text lines)) (none_first (is_of name) lines e)

-- ---- parts with a mark between them

join_next : (mark : ℕ) (x : List ℕ) (xs : List (List ℕ)) (y : List ℕ) → join_with_byte mark (x ∷ xs ++ y ∷ []) ≡ join_with_byte mark (x ∷ xs) ++ mark ∷ y
join_next mark x [] y = refl
join_next mark x (z ∷ xs) y = ap (λ (l : List ℕ). x ++ mark ∷ l) (join_next mark z xs y) ∙ sym (append_assoc x (mark ∷ join_with_byte mark (z ∷ xs)) (mark ∷ y))

pub later : (n : ℕ) → eqb (suc n) 0 ≡ false
later n = grind arith

pub is_later : (i : ℕ) → true ≡ not (eqb (i + 1) 0)
is_later i = ap not (sym (none_there i))
  where
    none_there : (i : ℕ) → eqb (i + 1) 0 ≡ false
    none_there i = grind arith

pub join_more : (mark : ℕ) (xs : List (List ℕ)) (y text new : List ℕ) (i : ℕ) (behind : Bool) → length xs ≡ i → behind ≡ not (eqb i 0) → text ≡ join_with_byte mark xs → new ≡ text ++ (cond behind (mark ∷ []) [] ++ y) → new ≡ join_with_byte mark (xs ++ y ∷ [])
join_more mark [] y text new i behind len later is e =
    e ∙ ap (λ (t : List ℕ). t ++ (cond behind (mark ∷ []) [] ++ y)) is ∙ ap (λ (t : Bool). cond t (mark ∷ []) [] ++ y) (later ∙ ap (λ (n : ℕ). not (eqb n 0)) (sym len))
join_more mark (x ∷ xs) y text new i behind len is_behind is e =
    e ∙ ap (λ (t : List ℕ). t ++ (cond behind (mark ∷ []) [] ++ y)) is
    ∙ ap (λ (t : Bool). join_with_byte mark (x ∷ xs) ++ (cond t (mark ∷ []) [] ++ y)) (is_behind ∙ ap (λ (n : ℕ). not (eqb n 0)) (sym len) ∙ ap not (later (length xs)))
    ∙ sym (join_next mark x xs y)

-- ---- what is seen of a list with one more

pub map_insert : {A B : Type 0} (f : A → B) (xs : List A) (i : ℕ) (x : A) → map f (insert xs i x) ≡ insert (map f xs) i (f x)
map_insert f xs i x =
    map-append f (take i xs) (x ∷ drop i xs)
    ∙ ap (λ l. l ++ (f x ∷ map f (drop i xs))) (sym (take-map f i xs))
    ∙ ap (λ l. take i (map f xs) ++ (f x ∷ l)) (sym (drop-map f i xs))
