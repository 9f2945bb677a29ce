-- Numbers that are free.
use Rattle.std.proofs.Common.{◌≡◌, inl, inr, ℕ, zero, suc, ◌+◌, ◌<◌, ◌≤◌, Bool, true, false, cond, not, ◌||◌, eqb, List, [], ◌∷◌, ◌++◌, length, get_or, set, Option, Some, None, nat_cmp, is_eq, refl, sym, ap, subst, ◌∙◌, arith}
use Rattle.std.specs.List.{list_any}
use Rattle.std.specs.Option.{option_eq}
use Rattle.std.specs.BTreeSet.{BTreeSet, contains}
use Rattle.std.proofs.lemmas.Bool.{true≢false, or_parts, and_parts, eqb-true}
use Rattle.std.proofs.lemmas.List.Folds.{list_any-append}
use Rattle.ips_text.proofs.Truths.{not_true}
use Rattle.ips_conflict.proofs.Places.{below_or_last}
use Rattle.ips_books.specs.Lines.{AccountLine, last_ended}
use Rattle.ips_books.specs.Accounts.{is_kept, number_of}
use Rattle.ips_books.specs.Writing.{added, has_number}
use Rattle.ips_books.specs.Seen.{as_line}
use Rattle.ips_passwd.specs.Entries.{AreFree, IsLeastFree}
use Rattle.ips_passwd.proofs.Maps.{same_number}
use Rattle.ips_passwd.proofs.Places.{added_length}

-- what the set has after one more number, or one fewer
abbrev pub Changed : BTreeSet ℕ → BTreeSet ℕ → ℕ → Bool → Type 0
Changed old new number there = (q : ℕ) → contains nat_cmp new q ≡ cond (is_eq (nat_cmp number q)) there (contains nat_cmp old q)

pub kept_more : (old new : BTreeSet ℕ) (number k : ℕ) → Changed old new number true → contains nat_cmp old k ≡ true → contains nat_cmp new k ≡ true
kept_more old new number k more led = more k ∙ go (is_eq (nat_cmp number k))
  where
    go : (t : Bool) → cond t true (contains nat_cmp old k) ≡ true
    go true = refl
    go false = led

pub same_set : (old new : BTreeSet ℕ) (k : ℕ) → new.keys ≡ old.keys → contains nat_cmp old k ≡ true → contains nat_cmp new k ≡ true
same_set old new k same led = ap (λ (keys : List ℕ). list_any (λ x. is_eq (nat_cmp k x)) keys) same ∙ led

-- ---- lines

-- a line that has a number speaks of someone, and this is its number
pub numbered : (id : ℕ) (line : AccountLine) → has_number id line ≡ true → (is_kept line ≡ false) × (option_eq eqb (number_of line) (Some id) ≡ true)
numbered id line e = let parts = and_parts (not (is_kept line)) (option_eq eqb (number_of line) (Some id)) e in (not_true (is_kept line) parts.0, parts.1)

pub not_kept_number : (id : ℕ) (line : AccountLine) → is_kept line ≡ true → has_number id line ≡ true → ⊥
not_kept_number id line kept e = true≢false (sym kept ∙ (numbered id line e).0)

pub this_number : (id number : ℕ) (line : AccountLine) → number_of line ≡ Some number → has_number id line ≡ true → number ≡ id
this_number id number line is e = eqb-true number id (ap (λ (o : Option ℕ). option_eq eqb o (Some id)) (sym is) ∙ (numbered id line e).1)

pub no_number : (id : ℕ) (line : AccountLine) → number_of line ≡ None → has_number id line ≡ true → ⊥
no_number id line is e = true≢false (sym (numbered id line e).1 ∙ ap (λ (o : Option ℕ). option_eq eqb o (Some id)) is)

-- ---- free numbers, once a line is added or another put in its place

ended_any : (id : ℕ) (lines : List AccountLine) → list_any (has_number id) (last_ended lines) ≡ list_any (has_number id) lines
ended_any id [] = refl
ended_any id (l ∷ []) = refl
ended_any id (l ∷ next ∷ lines) = ap (λ (t : Bool). has_number id l || t) (ended_any id (next ∷ lines))

added_any : (id : ℕ) (lines : List AccountLine) (line : AccountLine) → list_any (has_number id) (last_ended lines ++ line ∷ []) ≡ false → list_any (has_number id) lines ≡ false
added_any id lines line e =
    sym (ended_any id lines)
    ∙ (or_parts (list_any (has_number id) (last_ended lines)) (list_any (has_number id) (line ∷ [])) (sym (list_any-append (has_number id) (last_ended lines) (line ∷ [])) ∙ e)).0

pub free_added : (old new : BTreeSet ℕ) (lines all : List AccountLine) (text : List ℕ) → all ≡ added text lines → ((k : ℕ) → contains nat_cmp old k ≡ true → contains nat_cmp new k ≡ true) → contains nat_cmp new (length lines) ≡ true → AreFree old lines → AreFree new all
free_added old new lines all text whole stays last free k below unused =
    let line : AccountLine = record { text = text; ended = true } in
    elim (below_or_last k (length lines) (subst (λ (n : ℕ). k < n) (ap (λ (l : List AccountLine). length l) whole ∙ added_length lines line) below)) [
      | inl h ↦ stays k (free k h (added_any (k + 1) lines line (ap (list_any (has_number (k + 1))) (sym whole) ∙ unused)))
      | inr same ↦ subst (λ (n : ℕ). contains nat_cmp new n ≡ true) (sym same) last
    ]

set_any : (p : AccountLine → Bool) (lines : List AccountLine) (place : ℕ) (line d : AccountLine) → p (get_or lines place d) ≡ false → list_any p (set lines place line) ≡ false → list_any p lines ≡ false
set_any p [] place line d old e = refl
set_any p (l ∷ lines) zero line d old e = ap (λ (t : Bool). t || list_any p lines) old ∙ (or_parts (p line) (list_any p lines) e).1
set_any p (l ∷ lines) (suc place) line d old e =
    let parts = or_parts (p l) (list_any p (set lines place line)) e in
    ap (λ (t : Bool). t || list_any p lines) parts.0 ∙ set_any p lines place line d old parts.1

pub free_set : (old new : BTreeSet ℕ) (lines all : List AccountLine) (place : ℕ) (line was : AccountLine) (text : List ℕ) → all ≡ set lines place line → length all ≡ length lines → was ≡ get_or lines place was → text ≡ was.text
    → ((k : ℕ) → contains nat_cmp old k ≡ true → contains nat_cmp new k ≡ true) → ((k : ℕ) → has_number (k + 1) (as_line text) ≡ true → contains nat_cmp new k ≡ true) → AreFree old lines → AreFree new all
free_set old new lines all place line was text whole count is at stays given free k below unused = go (has_number (k + 1) was) refl
  where
    go : (t : Bool) → has_number (k + 1) was ≡ t → contains nat_cmp new k ≡ true
    go true e = given k (ap (λ (t : List ℕ). has_number (k + 1) (as_line t)) at ∙ e)
    go false e = stays k (free k (subst (λ (n : ℕ). k < n) count below) (set_any (has_number (k + 1)) lines place line was (ap (has_number (k + 1)) (sym is) ∙ e) (ap (list_any (has_number (k + 1))) (sym whole) ∙ unused)))

-- ---- the least

-- a used number is no longer kept
pub free_fewer : (old new : BTreeSet ℕ) (lines : List AccountLine) (first : ℕ) → Changed old new first false → list_any (has_number (first + 1)) lines ≡ true → AreFree old lines → AreFree new lines
free_fewer old new lines first fewer used free k below unused = fewer k ∙ go (is_eq (nat_cmp first k)) refl
  where
    go : (t : Bool) → is_eq (nat_cmp first k) ≡ t → cond t false (contains nat_cmp old k) ≡ true
    go true e = absurd (true≢false (sym used ∙ ap (λ (n : ℕ). list_any (has_number (n + 1)) lines) (same_number first k e) ∙ unused))
    go false e = free k below unused

used_below : (free : BTreeSet ℕ) (lines : List AccountLine) (n : ℕ) → AreFree free lines → n ≤ length lines → ((k : ℕ) → k < n → contains nat_cmp free k ≡ true → ⊥) → (k : ℕ) → k < n → list_any (has_number (k + 1)) lines ≡ true
used_below free lines n are within none k lt = go (list_any (has_number (k + 1)) lines) refl
  where
    go : (t : Bool) → list_any (has_number (k + 1)) lines ≡ t → t ≡ true
    go true e = refl
    go false e = absurd (none k lt (are k (omega (arith, lt, within)) e))

pub least_here : (free : BTreeSet ℕ) (lines : List AccountLine) (first : ℕ) → AreFree free lines → first < length lines → ((k : ℕ) → contains nat_cmp free k ≡ true → first ≤ k) → list_any (has_number (first + 1)) lines ≡ false → IsLeastFree lines first
least_here free lines first are within least unused = record {
  within = omega (arith, within);
  used = used_below free lines first are (omega (arith, within)) (λ k lt has. let up = least k has in omega (arith, lt, up));
  free = λ lt. unused;
}

pub least_past : (free : BTreeSet ℕ) (lines : List AccountLine) (n first : ℕ) → n ≡ length lines → AreFree free lines → n ≤ first → ((k : ℕ) → contains nat_cmp free k ≡ true → first ≤ k) → IsLeastFree lines n
least_past free lines n first is are past least = record {
  within = omega (arith, is);
  used = used_below free lines n are (omega (arith, is)) (λ k lt has. let up = least k has in omega (arith, lt, up, past));
  free = λ lt. absurd (omega (arith, lt, is));
}

pub least_none : (free : BTreeSet ℕ) (lines : List AccountLine) (n : ℕ) → n ≡ length lines → AreFree free lines → ((k : ℕ) → contains nat_cmp free k ≡ false) → IsLeastFree lines n
least_none free lines n is are none = record {
  within = omega (arith, is);
  used = used_below free lines n are (omega (arith, is)) (λ k lt has. true≢false (sym has ∙ none k));
  free = λ lt. absurd (omega (arith, lt, is));
}
