-- Names of marks taken away behind an open gate.
use Rattle.std.proofs.Common.{◌≡◌, ◌≢◌, ℕ, zero, suc, ◌+◌, ◌-◌, ◌*◌, ◌<◌, ◌≤◌, Bool, true, false, List, [], length, Option, Some, None, refl, sym, ◌∙◌, ap, subst, arith, inl, inr}
use Rattle.std.proofs.lemmas.Bool.{or_from, cases_lt, false_from_ne_true}
use Rattle.std.proofs.lemmas.List.{drop_all, length-drop}
use Rattle.ips_outside.specs.Image.{Entry, Image, Agrees, file_bytes}
use Rattle.ips_outside.specs.State.{State, ChangedWithin, IsSettled, nowhere}
use Rattle.ips_steps.specs.Steps.{Step, after, feasible}
use Rattle.ips_steps.specs.Private.{journal_name, gate_name, mark_front, mark_name, begins, visible}
use Rattle.ips_steps.specs.Owed.{AreMarks, steps_left, IsOpen, Owes, Open, FolderOwes}
use Rattle.ips_outside.proofs.Moments.{agrees_less, within_crash}
use Rattle.ips_steps.proofs.Linked.{marks_alike}
use Rattle.ips_steps.proofs.Lists.{clash}
use Rattle.ips_steps.proofs.Owing.{left_allowed}

front_gate_off : begins mark_front gate_name ≡ false
unfolding mark_front gate_name
front_gate_off = refl

front_journal_off : begins mark_front journal_name ≡ false
unfolding mark_front journal_name
front_journal_off = refl

-- Names of marks alone are others, and as many stand as leave the same steps.
pub open_unmarked : (text : List Step → List ℕ) (steps : List Step) (marks kept : ℕ) (a t u : Image) → IsOpen text steps marks a t → steps_left kept steps ≡ steps_left marks steps → AreMarks u kept
    → Agrees (begins mark_front) nowhere t u → IsOpen text steps kept a u
open_unmarked text steps marks kept a t u o same marked h =
    let r = o.ready in
    let alike = marks_alike (steps_left marks steps) t u (left_allowed text steps marks a t r) h in
    let Can : List Step → Type 0 = λ list. (feasible list u ≡ true) × (visible (after list u) ≡ a) in
    let there : Can (steps_left kept steps) = subst Can (sym same) (alike.0 ∙ r.can, alike.2 ∙ r.means) in
    record {
      gate = λ gone. o.gate (sym (h.look gate_name front_gate_off refl) ∙ gone);
      ready = record {
        lists = r.lists;
        is_sound = r.is_sound;
        journal = ap file_bytes (h.look journal_name front_journal_off refl) ∙ r.journal;
        marked = marked;
        can = there.0;
        means = there.1;
      };
    }

-- where more marks leave the same steps, they leave none, and so do all from there on
none_left : (steps : List Step) (kept marks : ℕ) → kept < marks → steps_left kept steps ≡ steps_left marks steps → length steps ≤ 1000 * kept
none_left steps kept marks lt same =
    let lengths : length steps - 1000 * kept ≡ length steps - 1000 * marks = sym (length-drop (1000 * kept) steps) ∙ ap length same ∙ length-drop (1000 * marks) steps in
    omega (arith, lengths, lt)

all_left : (steps : List Step) (n : ℕ) → length steps ≤ 1000 * n → steps_left n steps ≡ []
all_left steps n few = drop_all (1000 * n) steps few

-- A number of marks that stands and leaves these steps.
record Left (steps : List Step) (marks : ℕ) (u : Image) : Type 0 where
  count : ℕ
  are : AreMarks u count
  same : steps_left count steps ≡ steps_left marks steps

module _ (steps : List Step) (marks kept : ℕ) (t u : Image) (were : AreMarks t marks) (same : steps_left kept steps ≡ steps_left marks steps)
    (stay : (i : ℕ) → i < kept → u.look (mark_name (i + 1)) ≡ t.look (mark_name (i + 1))) (next : u.look (mark_name (marks + 1)) ≡ None) where
  -- the first ones stand, as far as they are kept
  stands : (i : ℕ) → i < kept → i < marks → u.look (mark_name (i + 1)) ≢ None
  stands i ki mi gone = were.stand i mi (sym (stay i ki) ∙ gone)

  all_stay : marks ≤ kept → Left steps marks u
  all_stay le = record { count = marks; are = record { stand = λ i lt. stands i (omega (arith, lt, le)) lt; last = next }; same = refl }

  -- where no steps are left, any number from there on will do
  any_from : kept < marks → (d k : ℕ) → k + d ≡ marks → kept ≤ k → ((i : ℕ) → i < k → u.look (mark_name (i + 1)) ≢ None) → Left steps marks u
  any_from lt zero k sum le before =
      let is : marks ≡ k = omega (arith, sum) in
      record { count = k; are = record { stand = before; last = subst (λ (n : ℕ). u.look (mark_name (n + 1)) ≡ None) is next }; same = ap (λ (n : ℕ). steps_left n steps) (sym is) }
  any_from lt (suc d) k sum le before = go (u.look (mark_name (k + 1))) refl (λ there. any_from lt d (k + 1) (omega (arith, sum)) (omega (arith, le)) (upto there))
    where
      few : length steps ≤ 1000 * kept
      few = none_left steps kept marks lt same

      upto : u.look (mark_name (k + 1)) ≢ None → (i : ℕ) → i < k + 1 → u.look (mark_name (i + 1)) ≢ None
      upto there i below = elim (cases_lt i k) [
        | inl under ↦ before i under
        | inr at ↦ let here : k ≡ i = omega (arith, below, at) in subst (λ (n : ℕ). u.look (mark_name (n + 1)) ≢ None) here there
      ]

      go : (e : Option Entry) → u.look (mark_name (k + 1)) ≡ e → (u.look (mark_name (k + 1)) ≢ None → Left steps marks u) → Left steps marks u
      go None is on = record {
        count = k;
        are = record { stand = before; last = is };
        same = all_left steps k (omega (arith, few, le)) ∙ sym (all_left steps marks (omega (arith, few, lt)));
      }
      go (Some e) is on = on (λ none. let no = sym is ∙ none in cc)

  some_left : Left steps marks u
  some_left = elim (cases_lt kept marks) [
    | inl lt ↦ any_from lt (marks - kept) kept (omega (arith, lt)) (omega arith) (λ i ki. stands i ki (omega (arith, ki, lt)))
    | inr ge ↦ all_stay ge
  ]

-- While such names go, other than the first ones and the next one, which doesn't stand, the folder owes the same.
pub owes_unmarking : (text : List Step → List ℕ) (steps : List Step) (marks kept : ℕ) (b a : Image) (due : Bool) (free : List ℕ → Bool) (old s : State) → IsOpen text steps marks a old.held → IsSettled old
    → steps_left kept steps ≡ steps_left marks steps → ((q : List ℕ) → free q ≡ true → begins mark_front q ≡ true) → ((i : ℕ) → i < kept → free (mark_name (i + 1)) ≡ false) → free (mark_name (marks + 1)) ≡ false
    → ChangedWithin free nowhere old s → FolderOwes text b (Some a) due s
owes_unmarking text steps marks kept b a due free old s o clean same own first next w = record {
  now = owes s.held w.agrees;
  left = λ c may. owes c (agrees_less _ _ free nowhere old.held c (λ q f. or_from _ _ f (clean.whole q)) (λ q l. or_from false _ refl (clean.modes q)) (within_crash free nowhere old s c w may));
}
  where
    owes : (c : Image) → Agrees free nowhere old.held c → Owes text b (Some a) due c
    owes c h =
        let left = some_left steps marks kept old.held c o.ready.marked same (λ i lt. h.look (mark_name (i + 1)) (first i lt) refl) (h.look (mark_name (marks + 1)) next refl ∙ o.ready.marked.last) in
        Open steps left.count (open_unmarked text steps marks left.count a old.held c o left.same left.are
        (agrees_less free nowhere (begins mark_front) nowhere old.held c (λ q off. false_from_ne_true _ (λ f. clash (begins mark_front q) (own q f) off)) (λ q l. l) h))
