-- Lines to which names and numbers lead.
use Rattle.std.proofs.Common.{◌≡◌, inl, inr, ℕ, zero, suc, ◌+◌, ◌<◌, Bool, true, List, [], ◌∷◌, ◌++◌, length, get_or, set, Result, Ok, Err, OnOk, OnErr, refl, sym, ap, subst, ◌∙◌, arith}
use Rattle.std.proofs.lemmas.Bool.{cases_eq}
use Rattle.std.proofs.lemmas.List.{length-set, get_or_default, get_or-set_same, get_or-set_other, get_or_append_left}
use Rattle.std.proofs.Math.Seq.{get_or-append_seam}
use Rattle.ips_conflict.proofs.Places.{below_or_last}
use Rattle.ips_books.specs.Lines.{AccountLine, last_ended}
use Rattle.ips_books.specs.Writing.{added}

-- Below a place, whatever a text is tested for leads to its line.
abbrev pub Led : {X : Type 0} → (X → List ℕ → Bool) → (X → ℕ → Bool) → ℕ → List AccountLine → Type 0
Led {X} test leads n lines = (i : ℕ) (d : AccountLine) → i < n → (x : X) → test x (get_or lines i d).text ≡ true → leads x i ≡ true

-- What led to a place still does.
abbrev pub Stays : {X : Type 0} → (X → ℕ → Bool) → (X → ℕ → Bool) → Type 0
Stays {X} old new = (x : X) (i : ℕ) → old x i ≡ true → new x i ≡ true

pub led_none : {X : Type 0} (test : X → List ℕ → Bool) (leads : X → ℕ → Bool) (lines : List AccountLine) → Led test leads 0 lines
led_none test leads lines i d lt = absurd (omega (arith, lt))

pub led_stays : {X : Type 0} (test : X → List ℕ → Bool) (old new : X → ℕ → Bool) (n : ℕ) (lines : List AccountLine) → Stays old new → Led test old n lines → Led test new n lines
led_stays test old new n lines stays led i d lt x e = stays x i (led i d lt x e)

pub led_more : {X : Type 0} (test : X → List ℕ → Bool) (old new : X → ℕ → Bool) (n : ℕ) (lines : List AccountLine) (line : AccountLine) (text : List ℕ) → n < length lines → line ≡ get_or lines n line → text ≡ line.text → Stays old new
    → ((x : X) → test x text ≡ true → new x n ≡ true) → Led test old n lines → Led test new (n + 1) lines
led_more test old new n lines line text lt is at stays noted led i d below x e = elim (below_or_last i n below) [
  | inl h ↦ stays x i (led i d h x e)
  | inr same ↦
      subst (λ (k : ℕ). new x k ≡ true) (sym same)
      (noted x (ap (test x) (at ∙ ap (λ (l : AccountLine). l.text) (is ∙ get_or_default lines n line d lt)) ∙ subst (λ (k : ℕ). test x (get_or lines k d).text ≡ true) same e))
]

-- ---- a line that is added

ended_length : (lines : List AccountLine) → length (last_ended lines) ≡ length lines
ended_length [] = refl
ended_length (l ∷ []) = refl
ended_length (l ∷ next ∷ lines) = ap suc (ended_length (next ∷ lines))

ended_text : (lines : List AccountLine) (i : ℕ) (d : AccountLine) → (get_or (last_ended lines) i d).text ≡ (get_or lines i d).text
ended_text [] i d = refl
ended_text (l ∷ []) zero d = refl
ended_text (l ∷ []) (suc i) d = refl
ended_text (l ∷ next ∷ lines) zero d = refl
ended_text (l ∷ next ∷ lines) (suc i) d = ended_text (next ∷ lines) i d

pub added_length : (lines : List AccountLine) (line : AccountLine) → length (last_ended lines ++ line ∷ []) ≡ length lines + 1
added_length [] line = refl
added_length (l ∷ []) line = refl
added_length (l ∷ next ∷ lines) line = omega (arith, added_length (next ∷ lines) line)

pub added_before : (lines : List AccountLine) (line : AccountLine) (i : ℕ) (d : AccountLine) → i < length lines → (get_or (last_ended lines ++ line ∷ []) i d).text ≡ (get_or lines i d).text
added_before lines line i d lt =
    ap (λ (l : AccountLine). l.text) (get_or_append_left (last_ended lines) (line ∷ []) d i (subst (λ (n : ℕ). i < n) (sym (ended_length lines)) lt)) ∙ ended_text lines i d

added_last : (lines : List AccountLine) (line : AccountLine) (d : AccountLine) → get_or (last_ended lines ++ line ∷ []) (length lines) d ≡ line
added_last lines line d = ap (λ (n : ℕ). get_or (last_ended lines ++ line ∷ []) n d) (sym (ended_length lines)) ∙ get_or-append_seam (last_ended lines) line [] d

pub led_added : {X : Type 0} (test : X → List ℕ → Bool) (old new : X → ℕ → Bool) (lines all : List AccountLine) (text : List ℕ) → all ≡ added text lines → Stays old new
    → ((x : X) → test x text ≡ true → new x (length lines) ≡ true) → Led test old (length lines) lines → Led test new (length all) all
led_added test old new lines all text whole stays noted led i d below x e = elim (below_or_last i (length lines) (subst (λ (n : ℕ). i < n) (ap (λ (l : List AccountLine). length l) whole ∙ added_length lines (record { text = text; ended = true })) below)) [
  | inl h ↦ stays x i (led i d h x (ap (test x) (sym (added_before lines (record { text = text; ended = true }) i d h)) ∙ ap (λ (l : List AccountLine). test x (get_or l i d).text) (sym whole) ∙ e))
  | inr same ↦
      subst (λ (k : ℕ). new x k ≡ true) (sym same)
      (noted x (ap (λ (l : AccountLine). test x l.text) (sym (added_last lines (record { text = text; ended = true }) d)) ∙ ap (λ (l : List AccountLine). test x (get_or l (length lines) d).text) (sym whole)
      ∙ subst (λ (k : ℕ). test x (get_or all k d).text ≡ true) same e))
]

-- ---- a line that is put in place of another

pub led_set : {X : Type 0} (test : X → List ℕ → Bool) (old new : X → ℕ → Bool) (lines all : List AccountLine) (place : ℕ) (line : AccountLine) (text : List ℕ) → all ≡ set lines place line → place < length lines → text ≡ line.text → Stays old new
    → ((x : X) → test x text ≡ true → new x place ≡ true) → Led test old (length lines) lines → Led test new (length all) all
led_set test old new lines all place line text whole within at stays noted led i d below x e =
    let here = ap (λ (l : List AccountLine). test x (get_or l i d).text) (sym whole) ∙ e in
    let lt = subst (λ (n : ℕ). i < n) (ap (λ (l : List AccountLine). length l) whole ∙ length-set lines place line) below in
    elim (cases_eq i place) [
      | inl same ↦
          subst (λ (k : ℕ). new x k ≡ true) (sym same)
          (noted x (ap (test x) at ∙ ap (λ (l : AccountLine). test x l.text) (sym (get_or-set_same lines place line d within)) ∙ subst (λ (k : ℕ). test x (get_or (set lines place line) k d).text ≡ true) same here))
      | inr apart ↦ stays x i (led i d lt x (ap (λ (l : AccountLine). test x l.text) (sym (get_or-set_other lines place i line d apart)) ∙ here))
    ]

-- ---- whether it went well or not

pub either_way : {X E P Q R : Type 0} (r : Result X E) → OnOk r P → OnErr r Q → (P → R) → (Q → R) → R
either_way (Ok x) p q f g = f p
either_way (Err e) p q f g = g q
