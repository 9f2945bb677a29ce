-- The last line of a text gets its newline, and another one is added behind it.
use Rattle.std.proofs.Common.{◌≡◌, ℕ, zero, suc, ◌-◌, ◌<◌, List, [], ◌∷◌, ◌++◌, length, get_or, set, ap, ◌∙◌, arith}
use Rattle.ips_books.specs.Lines.{AccountLine, ended, last_ended}

ended_at : (lines : List AccountLine) (x line : AccountLine) (n : ℕ) → suc n ≡ length lines → line ≡ get_or (lines ++ x ∷ []) n line → set (lines ++ x ∷ []) n (ended line) ≡ last_ended lines ++ x ∷ []
ended_at [] x line n e is = absurd (omega (arith, e))
ended_at (l ∷ []) x line zero e is = ap (λ (y : AccountLine). ended y ∷ x ∷ []) is
ended_at (l ∷ []) x line (suc n) e is = absurd (omega (arith, e))
ended_at (l ∷ next ∷ lines) x line zero e is = absurd (omega (arith, e))
ended_at (l ∷ next ∷ lines) x line (suc n) e is = ap (λ (y : List AccountLine). l ∷ y) (ended_at (next ∷ lines) x line n (omega (arith, e)) is)

pub ended_before : (lines all : List AccountLine) (x line next : AccountLine) (count : ℕ) → all ≡ lines ++ x ∷ [] → count ≡ length lines → 0 < count → line ≡ get_or all (count - 1) line → next ≡ ended line → set all (count - 1) next ≡ last_ended lines ++ x ∷ []
ended_before lines all x line next count whole is some at e =
    (λ i. set (whole i) (count - 1) (e i)) ∙ ended_at lines x line (count - 1) (omega (arith, some, is)) (at ∙ ap (λ (l : List AccountLine). get_or l (count - 1) line) whole)
