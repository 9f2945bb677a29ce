-- The history is all that is due behind a repair.
use Rattle.std.proofs.Common.{◌≡◌, inl, inr, ℕ, Bool, true, false, ◌||◌, List, [], ◌∷◌, Option, Some, None, is_some, cond, refl, sym, subst, arith}
use Rattle.std.specs.Prelude.{IsTrue, codes}
use Rattle.std.proofs.lemmas.Bool.{false_from_ne_true, or_cases}
use Rattle.ips_text.specs.Path.{IsPath}
use Rattle.ips_text.specs.Ancestry.{covers, is_below, same_path}
use Rattle.ips_text.proofs.Ancestry.{same_path-true}
use Rattle.ips_outside.specs.Image.{Entry, Image}
use Rattle.ips_records.specs.Lines.{lines_text}
use Rattle.ips_records.proofs.Joined.{joined_path, pkg_name}
use Rattle.ips_steps.specs.Private.{records_name, is_private}
use Rattle.ips_steps.proofs.Lists.{clash}
use Rattle.ips_state.specs.Records.{history_path}
use Rattle.ips_after.specs.Request.{Over}
use Rattle.ips_due.specs.Apart.{LeavesSalvage, lost_path}
use Rattle.ips_due.specs.Due.{Due, HasProperDue, IsDue, IsOverOf, Own, is_due, is_own, record_at}
use Rattle.ips_due.proofs.Fitting.{Account, Folder, Gone, Record, Said, Silent, said_is}
use Rattle.ips_request_due.specs.repairs.Repairing.{repair_due}
use Rattle.ips_due.proofs.Standing.{history_seen}

pub own_history : is_own history_path ≡ true
unfolding records_name
own_history = refl

module _ (history : List (List ℕ)) where
  abbrev due : Due
  due = repair_due history

  -- a record is due at the history's path alone
  pub at_history : (q : List ℕ) → is_some (record_at due.records q) ≡ true → history_path ≡ q
  at_history q h = same_path-true history_path q (go (same_path history_path q) h)
    where
      go : (c : Bool) → is_some (cond c (Some (Own (lines_text history))) None) ≡ true → c ≡ true
      go true h = refl
      go false h = cc

  pub is_due_there : (q : List ℕ) → (is_some (record_at due.records q) || (false || (false || false))) ≡ true → history_path ≡ q
  is_due_there q h = elim (or_cases (is_some (record_at due.records q)) (false || (false || false)) h) [ inl there ↦ at_history q there | inr none ↦ cc ]

  -- what is due is so in the wider list
  pub widened : (q : List ℕ) → is_due due q ≡ true → (is_some (record_at due.records q) || (false || (false || false))) ≡ true
  widened q h = h

  pub hangs : IsDue due
  hangs = record {
    accounts = λ q h. cc;
    own = λ q h. let at = is_due_there q h in (subst (λ (x : List ℕ). is_own x ≡ true) at own_history, subst (λ (x : List ℕ). is_private x ≡ false) at history_seen);
    flat = λ p q below there. false_from_ne_true _ (λ bad. elim (or_cases (is_some (record_at due.records p)) false bad) [
      | inl up ↦ let one : history_path ≡ q = elim (or_cases (is_some (record_at due.records q)) (false || false) there) [ inl h ↦ at_history q h | inr none ↦ cc ] in
          clash (is_below history_path history_path) (subst (λ (x : List ℕ). is_below history_path x ≡ true) (sym one) (subst (λ (x : List ℕ). is_below x q ≡ true) (sym (at_history p up)) below)) refl
      | inr none ↦ cc
    ]);
  }

  pub is_proper : HasProperDue due
  is_proper = record {
    paths = λ q h. elim (or_cases (is_due due q) false h) [
      | inl there ↦ subst IsPath (elim (or_cases (is_some (record_at due.records q)) (false || false) there) [ inl record_due ↦ at_history q record_due | inr none ↦ cc ]) at_path
      | inr none ↦ cc
    ];
    modes = λ q m b at. cc;
  }
    where
      at_path : IsPath history_path
      at_path = joined_path (codes "var" ∷ codes "pkg" ∷ codes "history" ∷ []) (record { bytes = refl; some = omega arith; few = omega arith; no_dots = refl }, (pkg_name, (record { bytes = refl; some = omega arith; few = omega arith; no_dots = refl }))) (omega arith)

  -- what is said is said of the history
  pub said_there : (q : List ℕ) (x : Option (Option Entry)) → Said due q x → is_some x ≡ true → history_path ≡ q
  said_there q _ (Account m b at) h = cc
  said_there q _ (Record b at) h = at_history q at
  said_there q _ (Folder at) h = cc
  said_there q _ (Gone at) h = cc
  said_there q _ Silent h = cc

  pub leaves : (bytes : List ℕ → List ℕ) (holds : List ℕ → List ℕ → Bool) (t : Image) (o : Over) → IsOverOf bytes holds due t o → LeavesSalvage o
  leaves bytes holds t o of = record {
    at = λ q there. let is = said_there q (o.at q) (subst (Said due q) (sym (of.at q)) (said_is bytes holds due t q)) there in
        inr (subst (λ (x : List ℕ). IsTrue (is_own x)) is own_history, subst (λ (x : List ℕ). covers lost_path x ≡ false) is refl);
    only = of.only;
  }
