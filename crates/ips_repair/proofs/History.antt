-- What records say behind a repair: the history is laid where it doesn't stand yet.
use Rattle.std.proofs.Common.{◌≡◌, inl, inr, ℕ, Bool, true, false, cond, not, ◌&&◌, ◌||◌, List, [], ◌∷◌, filter, Option, Some, None, is_some, refl, sym, ap, subst}
use Rattle.std.specs.Prelude.{codes}
use Rattle.std.specs.List.Sorted.{IsStrictlySortedBy}
use Rattle.std.specs.Ordering.{nat_cmp}
use Rattle.std.specs.Cmp.Lexicographic.{slice_cmp}
use Rattle.std.proofs.lemmas.Bool.{and_parts, or_cases}
use Rattle.std.proofs.lemmas.Option.{same_Some}
use Rattle.ips_text.specs.Ancestry.{covers, is_below, same_path}
use Rattle.ips_text.proofs.Ancestry.{at_parent_of, covers_trans, same_path-true}
use Rattle.ips_outside.specs.Image.{Entry, File, Image}
use Rattle.ips_records.specs.Lines.{lines_text}
use Rattle.ips_state.specs.Records.{history_path}
use Rattle.ips_after.specs.Findings.{is_account_path}
use Rattle.ips_after.specs.Lists.{listed}
use Rattle.ips_after.specs.Request.{Over}
use Rattle.ips_change.specs.wanted.Named.{is_payload_of}
use Rattle.ips_due.specs.Due.{IsOverOf, Own, holds_content, said}
use Rattle.ips_request_due.specs.repairs.Repairing.{repair_due}

-- the path of the history and those above it
abbrev history_keys : List (List ℕ)
history_keys = codes "var" ∷ codes "var/pkg" ∷ history_path ∷ []

-- what is said of the history: nothing where it stands, else it is laid
abbrev laid_unless : Bool → List ℕ → Option (Option Entry)
laid_unless stands text = cond stands None (Some (Some (File 420 text)))

abbrev pub over_history : Bool → List ℕ → Over
over_history stands text = record { at = λ q. cond (same_path history_path q) (laid_unless stands text) None; is_account = is_account_path; keys = cond stands [] history_keys }

-- the paths of which something is said
pub put_paths : (stands : Bool) (text : List ℕ) → filter (λ p. is_some ((over_history stands text).at p)) (over_history stands text).keys ≡ cond stands [] (history_path ∷ [])
put_paths true text = refl
put_paths false text = refl

pub put_at : (stands : Bool) (text : List ℕ) → (over_history stands text).at history_path ≡ laid_unless stands text
put_at stands text = refl

module _ (history : List (List ℕ)) (t : Image) where
  abbrev pub text : List ℕ
  text = lines_text history

  -- the history stands as it is to be
  abbrev pub history_stands : Bool
  history_stands = holds_content is_payload_of (Own text) (t.look history_path)

  abbrev pub over : Over
  over = over_history history_stands text

  at_same : (b : Bool) → cond (b && not (false || false)) None (Some (Some (File 420 text))) ≡ laid_unless b text
  at_same true = refl
  at_same false = refl

  said_at : (bytes : List ℕ → List ℕ) (q : List ℕ) (s : Bool) → same_path history_path q ≡ s → over.at q ≡ said bytes is_payload_of (repair_due history) t q
  said_at bytes q true same =
      let one = same_path-true history_path q same in
      subst (λ (x : List ℕ). over.at x ≡ said bytes is_payload_of (repair_due history) t x) one (sym (at_same history_stands))
  said_at bytes q false apart = rw apart refl

  -- paths at or above that of the history are among its keys
  above_keys : (p : List ℕ) → covers p history_path ≡ true → listed history_keys p ≡ true
  above_keys p over = go (same_path p history_path) refl
    where
      last : (s : Bool) → same_path p (codes "var") ≡ s → covers p (codes "var") ≡ true → listed history_keys p ≡ true
      last true same up = ap (listed history_keys) (same_path-true p (codes "var") same)
      last false apart up = let d = at_parent_of p (codes "var") up apart in let none : None ≡ Some d.dir = d.is in cc

      middle : (s : Bool) → same_path p (codes "var/pkg") ≡ s → covers p (codes "var/pkg") ≡ true → listed history_keys p ≡ true
      middle true same up = ap (listed history_keys) (same_path-true p (codes "var/pkg") same)
      middle false apart up =
          let d = at_parent_of p (codes "var/pkg") up apart in
          let one : Some (codes "var") ≡ Some d.dir = d.is in
          last (same_path p (codes "var")) refl (subst (λ (x : List ℕ). covers p x ≡ true) (sym (same_Some (codes "var") d.dir one)) d.up)

      go : (s : Bool) → same_path p history_path ≡ s → listed history_keys p ≡ true
      go true same = ap (listed history_keys) (same_path-true p history_path same)
      go false apart =
          let d = at_parent_of p history_path over apart in
          let one : Some (codes "var/pkg") ≡ Some d.dir = d.is in
          middle (same_path p (codes "var/pkg")) refl (subst (λ (x : List ℕ). covers p x ≡ true) (sym (same_Some (codes "var/pkg") d.dir one)) d.up)

  keys_above : (p : List ℕ) → listed history_keys p ≡ true → covers p history_path ≡ true
  keys_above p l = elim (or_cases (same_path (codes "var") p) _ l) [
    | inl one ↦ ap (λ (x : List ℕ). covers x history_path) (sym (same_path-true (codes "var") p one))
    | inr more ↦ elim (or_cases (same_path (codes "var/pkg") p) _ more) [
      | inl two ↦ ap (λ (x : List ℕ). covers x history_path) (sym (same_path-true (codes "var/pkg") p two))
      | inr rest ↦ elim (or_cases (same_path history_path p) false rest) [
        | inl three ↦ ap (λ (x : List ℕ). covers x history_path) (sym (same_path-true history_path p three))
        | inr none ↦ cc
      ]
    ]
  ]

  in_order : IsStrictlySortedBy (slice_cmp nat_cmp) history_keys
  unfolding IsStrictlySortedBy
  in_order = ((refl, (refl, tt)), ((refl, tt), (tt, tt)))

  keyed_at : (b : Bool) (q : List ℕ) → is_some ((over_history b text).at q) ≡ true → listed (over_history b text).keys q ≡ true
  keyed_at b q h = go b (same_path history_path q) refl h
    where
      go : (b s : Bool) → same_path history_path q ≡ s → is_some (cond s (laid_unless b text) None) ≡ true → listed (cond b [] history_keys) q ≡ true
      go true true same h = cc
      go true false same h = cc
      go false false same h = cc
      go false true same h = ap (listed history_keys) (sym (same_path-true history_path q same))

  closed_at : (b : Bool) (p q : List ℕ) → is_below p q ≡ true → listed (cond b [] history_keys) q ≡ true → listed (cond b [] history_keys) p ≡ true
  closed_at true p q up l = cc
  closed_at false p q up l = above_keys p (covers_trans p q history_path (and_parts (covers p q) _ up).0 (keys_above q l))

  only_at : (b : Bool) (p : List ℕ) → listed (cond b [] history_keys) p ≡ true → (q : List ℕ) × (covers p q ≡ true) × (is_some ((over_history b text).at q) ≡ true)
  only_at true p l = cc
  only_at false p l = (history_path, keys_above p l, refl)

  sorted_at : (b : Bool) → IsStrictlySortedBy (slice_cmp nat_cmp) (cond b [] history_keys)
  unfolding IsStrictlySortedBy
  sorted_at true = tt
  sorted_at false = in_order

  -- so this is what records say, whatever the bytes of payloads
  pub says : (bytes : List ℕ → List ℕ) → IsOverOf bytes is_payload_of (repair_due history) t over
  says bytes = record {
    at = λ q. said_at bytes q (same_path history_path q) refl;
    accounts = λ q. refl;
    keyed = keyed_at history_stands;
    closed = closed_at history_stands;
    only = only_at history_stands;
    by_bytes = sorted_at history_stands;
  }

  pub no_account : (q : List ℕ) → is_some (over.at q) ≡ true → is_account_path q ≡ false
  no_account q h = go (same_path history_path q) refl h
    where
      go : (s : Bool) → same_path history_path q ≡ s → is_some (cond s (laid_unless history_stands text) None) ≡ true → is_account_path q ≡ false
      go true same h = ap is_account_path (sym (same_path-true history_path q same))
      go false apart h = cc
