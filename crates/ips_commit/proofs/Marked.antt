-- Marks, and what else stands at the updater's own names, while steps are laid and marks are made.
use Rattle.std.proofs.Common.{◌≡◌, ◌≢◌, ◌⊎◌, ℕ, zero, suc, ◌+◌, ◌^◌, ◌<◌, Bool, true, false, List, [], Option, None, unwrap_or, refl, sym, ◌∙◌, ap, subst, arith, inl, inr, Some}
use Rattle.std.specs.List.{list_any}
use Rattle.std.specs.Fmt.{decimal}
use Rattle.std.proofs.lemmas.Bool.{or_parts, or_from, cases_lt}
use Rattle.ips_text.specs.Ancestry.{covers}
use Rattle.ips_outside.specs.Image.{Entry, Image, IsImage, Agrees, file_bytes}
use Rattle.ips_outside.specs.State.{nowhere}
use Rattle.ips_outside.proofs.Moments.{agrees_less}
use Rattle.ips_folder.specs.Calls.{CanMake}
use Rattle.ips_folder.proofs.Crashes.{alike_none}
use Rattle.ips_steps.specs.Steps.{Step, freed}
use Rattle.ips_steps.specs.Private.{journal_name, gate_name, mark_front, mark_name, begins}
use Rattle.ips_steps.specs.Journal.{allowed}
use Rattle.ips_steps.specs.Owed.{AreMarks}
use Rattle.ips_steps.proofs.Numbered.{marks_apart}
use Rattle.ips_steps.proofs.PrivateNames.{journal_kept, gate_kept, marks_kept, same_bytes, begins_front}
use Rattle.ips_journal.specs.Reading.{journal_of}
use Rattle.ips_commit.specs.Pending.{HasNoOtherMark, mark_names}
use Rattle.ips_commit.proofs.OwnNames.{marks_stay, mark_parent_of}
use Rattle.ips_commit.proofs.Swept.{off_mark}

-- ---- while steps are laid

module _ (steps : List Step) (may : allowed steps ≡ true) (loose : List ℕ → Bool) (t u : Image) (h : Agrees (freed steps) loose t u) where
  pub journal_laid : journal_of u ≡ journal_of t
  journal_laid = ap (λ (b : Option (List ℕ)). unwrap_or b []) (same_bytes (u.look journal_name) (t.look journal_name) (h.but_mode journal_name (journal_kept steps may)))

  pub gate_laid : t.look gate_name ≢ None → u.look gate_name ≢ None
  gate_laid there gone = there (alike_none (t.look gate_name) (u.look gate_name) (sym (h.but_mode gate_name (gate_kept steps may))) gone)

  pub marks_laid : (count : ℕ) → AreMarks t count → AreMarks u count
  marks_laid count are = record {
    stand = λ i lt none. are.stand i lt (alike_none (t.look (mark_name (i + 1))) (u.look (mark_name (i + 1))) (sym (h.but_mode (mark_name (i + 1)) (marks_kept steps (i + 1) may))) none);
    last = alike_none (u.look (mark_name (count + 1))) (t.look (mark_name (count + 1))) (h.but_mode (mark_name (count + 1)) (marks_kept steps (count + 1) may)) are.last;
  }

  pub others_laid : (names : List (List ℕ)) → HasNoOtherMark t names → HasNoOtherMark u names
  others_laid names others q b off = alike_none (u.look q) (t.look q) (h.but_mode q (marks_stay q b steps may)) (others q b off)

-- ---- where the names of marks alone are others

-- neither the gate nor the journal is a mark
own_unmarked : (begins mark_front gate_name ≡ false) × (begins mark_front journal_name ≡ false)
unfolding mark_front gate_name journal_name
own_unmarked = (refl, refl)

pub journal_marked : (t u : Image) → Agrees (begins mark_front) nowhere t u → journal_of u ≡ journal_of t
journal_marked t u h = ap (λ (e : Option Entry). unwrap_or (file_bytes e) []) (h.look journal_name own_unmarked.1 refl)

pub gate_marked : (t u : Image) → Agrees (begins mark_front) nowhere t u → t.look gate_name ≢ None → u.look gate_name ≢ None
gate_marked t u h there gone = there (sym (h.look gate_name own_unmarked.0 refl) ∙ gone)

-- ---- one mark

pub mark_own : (n : ℕ) → begins mark_front (mark_name n) ≡ true
mark_own n = begins_front mark_front (decimal n)

-- what changes at and below one mark changes at the names of marks
pub at_marks : (n : ℕ) (t u : Image) → Agrees (covers (mark_name n)) nowhere t u → Agrees (begins mark_front) nowhere t u
at_marks n t u h = agrees_less (covers (mark_name n)) nowhere (begins mark_front) nowhere t u (off_mark (mark_name n) (mark_own n)) (λ q l. refl) h

-- a later number is none of the first ones
not_among : (count n : ℕ) → count < n → n < 2 ^ 64 → list_any (λ m. covers m (mark_name n)) (mark_names count) ≡ false
not_among zero n lt small = refl
not_among (suc count) n lt small = or_from (covers (mark_name (suc count)) (mark_name n)) _ (marks_apart (suc count) n (omega (arith, lt, small)) small (λ e. omega (arith, lt, e))) (not_among count n (omega (arith, lt)) small)

pub absent_later : (t : Image) (count n : ℕ) → HasNoOtherMark t (mark_names count) → count < n → n < 2 ^ 64 → t.look (mark_name n) ≡ None
absent_later t count n others lt small = others (mark_name n) (mark_own n) (not_among count n lt small)

-- where something stands at the gate, the next mark can be made
pub can_mark : (t : Image) → IsImage t → t.look gate_name ≢ None → (count n : ℕ) → HasNoOtherMark t (mark_names count) → count < n → n < 2 ^ 64 → CanMake t (mark_name n)
can_mark t formed gate count n others lt small = record {
  absent = absent_later t count n others lt small;
  parent = mark_parent_of t formed gate n small;
}

module _ (count : ℕ) (few : count + 2 < 2 ^ 64) (t u : Image) (h : Agrees (covers (mark_name (count + 1))) nowhere t u) where
  pub elsewhere : (i : ℕ) → i < 2 ^ 64 → (count + 1 ≡ i → ⊥) → u.look (mark_name i) ≡ t.look (mark_name i)
  elsewhere i lt apart = h.look (mark_name i) (marks_apart (count + 1) i (omega (arith, few)) lt apart) refl

  pub one_more_stands : AreMarks t count → HasNoOtherMark t (mark_names count) → u.look (mark_name (count + 1)) ≢ None → AreMarks u (count + 1)
  one_more_stands are others there = record { stand = at; last = ap (λ (k : ℕ). u.look (mark_name k)) next ∙ elsewhere (count + 2) few (λ e. omega (arith, e)) ∙ absent_later t count (count + 2) others (omega arith) few }
    where
      next : count + 1 + 1 ≡ count + 2
      next = omega arith

      at : (i : ℕ) → i < count + 1 → u.look (mark_name (i + 1)) ≢ None
      at i lt = elim (cases_lt i count) [
        | inl below ↦ λ gone. are.stand i below (sym (elsewhere (i + 1) (omega (arith, few, lt)) (λ e. omega (arith, e, below))) ∙ gone)
        | inr up ↦ let same : count + 1 ≡ i + 1 = omega (arith, lt, up) in subst (λ (k : ℕ). u.look (mark_name k) ≢ None) same there
      ]

  pub others_more : HasNoOtherMark t (mark_names count) → HasNoOtherMark u (mark_names (count + 1))
  others_more others = subst (λ (k : ℕ). HasNoOtherMark u (mark_names k)) next (λ q b off.
      let parts = or_parts (covers (mark_name (suc count)) q) _ off in
      h.look q (subst (λ (k : ℕ). covers (mark_name k) q ≡ false) next parts.0) refl ∙ others q b parts.1)
    where
      next : suc count ≡ count + 1
      next = omega arith

  -- with the next mark or without it
  pub one_more_or_not : AreMarks t count → HasNoOtherMark t (mark_names count) → AreMarks u count ⊎ AreMarks u (count + 1)
  one_more_or_not are others = go (u.look (mark_name (count + 1))) refl
    where
      go : (e : Option Entry) → u.look (mark_name (count + 1)) ≡ e → AreMarks u count ⊎ AreMarks u (count + 1)
      go None none = inl (record { stand = λ i lt gone. are.stand i lt (sym (elsewhere (i + 1) (omega (arith, few, lt)) (λ e. omega (arith, e, lt))) ∙ gone); last = none })
      go (Some e) is = inr (one_more_stands are others (λ gone. let bad = sym is ∙ gone in cc))

-- the same marks stand where none of their names is another
pub same_marks : (free : List ℕ → Bool) (t u : Image) (count : ℕ) → Agrees free nowhere t u → ((i : ℕ) → free (mark_name i) ≡ false) → AreMarks t count → AreMarks u count
same_marks free t u count h off are = record {
  stand = λ i lt gone. are.stand i lt (sym (h.look (mark_name (i + 1)) (off (i + 1)) refl) ∙ gone);
  last = h.look (mark_name (count + 1)) (off (count + 1)) refl ∙ are.last;
}
