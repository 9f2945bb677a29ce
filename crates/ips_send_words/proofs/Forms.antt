-- Words at the places of a form.
use Rattle.std.proofs.Common.{◌≡◌, ℕ, zero, suc, ◌+◌, ◌<◌, ◌≤◌, List, [], ◌∷◌, length, take, Option, Some, None, refl, sym, ap, subst, ◌∙◌, arith}
use Rattle.std.specs.Prelude.{slice_get}
use Rattle.std.proofs.lemmas.List.{take_all}
use Rattle.std.proofs.lemmas.Option.{none-some}
use Rattle.ips_send_words.specs.Form.{Word, Form, AreOf, Begin}

-- what the word at a place of a form has to be; none stands behind the last
abbrev pub at : Form → ℕ → Word → Type 0
at [] place w = ⊥
at (P ∷ form) zero w = P w
at (P ∷ form) (suc place) w = at form place w

-- each of so many words is what it has to be
pub begin_by : (form : Form) (words : List Word) (n : ℕ) → ((p : ℕ) (w : Word) → p < n → slice_get words p ≡ Some w → at form p w) → Begin form (take n words)
begin_by form [] zero each = tt
begin_by form [] (suc n) each = tt
begin_by form (x ∷ words) zero each = tt
begin_by [] (x ∷ words) (suc n) each = each 0 x (omega arith) refl
begin_by (P ∷ form) (x ∷ words) (suc n) each = (each 0 x (omega arith) refl, begin_by form words n (λ p w lt there. each (suc p) w (omega (arith, lt)) there))

pub begin_at : (form : Form) (words : List Word) (n p : ℕ) (w : Word) → Begin form (take n words) → p < n → slice_get words p ≡ Some w → at form p w
begin_at form [] n p w h lt there = absurd (none-some w there)
begin_at form (x ∷ words) zero p w h lt there = absurd (omega (arith, lt))
begin_at [] (x ∷ words) (suc n) p w h lt there = absurd h
begin_at (P ∷ form) (x ∷ words) (suc n) zero w h lt there = subst P (same x w there) h.0
  where
    same : (x w : Word) → (let o : Option Word = Some x in o) ≡ Some w → x ≡ w
    same x w e = cc
begin_at (P ∷ form) (x ∷ words) (suc n) (suc p) w h lt there = begin_at form words n p w h.1 (omega (arith, lt)) there

pub of_begin : (form : Form) (words : List Word) (n : ℕ) → AreOf form words → Begin form (take n words)
of_begin [] [] zero h = tt
of_begin [] [] (suc n) h = tt
of_begin [] (x ∷ words) n h = absurd h
of_begin (P ∷ form) [] zero h = tt
of_begin (P ∷ form) [] (suc n) h = tt
of_begin (P ∷ form) (x ∷ words) zero h = tt
of_begin (P ∷ form) (x ∷ words) (suc n) h = (h.0, of_begin form words n h.1)

pub of_length : (form : Form) (words : List Word) → AreOf form words → length words ≡ length form
of_length [] [] h = refl
of_length [] (x ∷ words) h = absurd h
of_length (P ∷ form) [] h = absurd h
of_length (P ∷ form) (x ∷ words) h = ap suc (of_length form words h.1)

pub begin_of : (form : Form) (words : List Word) → Begin form words → length words ≡ length form → AreOf form words
begin_of [] [] h e = tt
begin_of [] (x ∷ words) h e = absurd h
begin_of (P ∷ form) [] h e = absurd (omega (arith, e))
begin_of (P ∷ form) (x ∷ words) h e = (h.0, begin_of form words h.1 (omega (arith, e)))

begin_none : (form : Form) (words : List Word) → Begin form (take 0 words)
begin_none form [] = tt
begin_none form (x ∷ words) = tt

-- one word more
pub begin_more : (form : Form) (words : List Word) (n : ℕ) (w : Word) → Begin form (take n words) → slice_get words n ≡ Some w → at form n w → Begin form (take (suc n) words)
begin_more form [] n w h there is = absurd (none-some w there)
begin_more [] (x ∷ words) zero w h there is = absurd is
begin_more [] (x ∷ words) (suc n) w h there is = absurd h
begin_more (P ∷ form) (x ∷ words) zero w h there is = (subst P (sym (same x w there)) is, begin_none form words)
  where
    same : (x w : Word) → (let o : Option Word = Some x in o) ≡ Some w → x ≡ w
    same x w e = cc
begin_more (P ∷ form) (x ∷ words) (suc n) w h there is = (h.0, begin_more form words n w h.1 there is)

-- all words of the form, where there are no more
pub all_of : (form : Form) (words : List Word) (n : ℕ) → Begin form (take n words) → length words ≤ n → n ≤ length words → n ≡ length form → AreOf form words
all_of form words n h le ge is = begin_of form words (subst (Begin form) (take_all n words le) h) (omega (arith, le, ge, is))
