-- Paths that are marked, by what is said of those at or below them.
use Rattle.std.proofs.Common.{◌≡◌, ◌⊎◌, ℕ, Bool, true, false, cond, List, [], Vec, Global, Option, Some, None, nat_cmp, sym, ap, subst, ◌∙◌, inl, inr}
use Rattle.std.specs.Prelude.{◌↔◌, is_some}
use Rattle.std.specs.Map.{lookup}
use Rattle.std.specs.List.{list_any}
use Rattle.std.specs.BTreeMap.{insert_entry}
use Rattle.std.specs.Option.{unwrap_or}
use Rattle.std.specs.Cmp.Lexicographic.{slice_cmp}
use Rattle.std.proofs.lemmas.Bool.{and_parts, cases_Bool, true≢false}
use Rattle.ips_text.specs.Path.{IsPath}
use Rattle.ips_text.specs.Ancestry.{covers}
use Rattle.ips_text.proofs.Ancestry.{covers_trans}
use Rattle.ips_action.specs.Attrs.{is_same}
use Rattle.ips_action.proofs.KeyOrder.{same_true}
use Rattle.ips_conflict.specs.Index.{HoldsAbove, has_path}
use Rattle.ips_conflict.proofs.Kept.{found_insert, is_same_self}
use Rattle.ips_meaning.proofs.Fronts.{covers_path}
use Rattle.ips_due.specs.declared.outstanding.notes.Notes.{Notes}
use Rattle.ips_due.specs.declared.outstanding.verdict.Verdict.{Verdict}
use Rattle.ips_due.specs.outstanding.Noted.{AreMarked, noted, told}

-- nothing is marked where nothing is noted
pub marked_none : (notes : Notes) → notes.keys.keys ≡ [] → notes.verdicts.entries ≡ [] → AreMarked notes
marked_none notes none empty = record {
  keys = λ p. (
    λ had. absurd (true≢false (sym had ∙ nothing p)),
    λ w. absurd (true≢false (sym w.1 ∙ ap (λ (es : List (Vec ℕ Global × Option Verdict)). is_some (unwrap_or (lookup (λ k. is_same w.0 k.items) es) None)) empty)),
  );
  proper = λ p had. absurd (true≢false (sym had ∙ nothing p));
}
  where
    nothing : (p : List ℕ) → has_path notes.keys p ≡ false
    nothing p = ap (λ (ks : List (Vec ℕ Global)). list_any (λ k. is_same p k.items) ks) none

pub marks_hold : (notes : Notes) → AreMarked notes → HoldsAbove notes.keys
marks_hold notes marked p q had up =
    let w = (marked.keys q).0 had in
    (marked.keys p).1 (w.0, w.1, covers_trans p q w.0 (and_parts _ _ up).0 w.2)

-- ---- once more is noted

-- what is noted once a verdict is put at a path
pub noted_more : (old new : Notes) (key : Vec ℕ Global) (v : Option Verdict) (path : List ℕ) → new.verdicts.entries ≡ insert_entry (λ a b. slice_cmp nat_cmp a.items b.items) old.verdicts.entries key v → key.items ≡ path
    → (q : List ℕ) → noted new q ≡ cond (is_same q path) (Some v) (noted old q)
noted_more old new key v path is at q =
    ap (λ (es : List (Vec ℕ Global × Option Verdict)). lookup (λ k. is_same q k.items) es) is ∙ found_insert key v q old.verdicts.entries
    ∙ ap (λ (p : List ℕ). cond (is_same q p) (Some v) (noted old q)) at

module _ (old new : Notes) (v : Option Verdict) (path : List ℕ) (fresh : noted old path ≡ None) (is : (q : List ℕ) → noted new q ≡ cond (is_same q path) (Some v) (noted old q)) where
  told_here : (q : List ℕ) → is_same q path ≡ true → told new q ≡ v
  told_here q same = ap (λ (o : Option (Option Verdict)). unwrap_or o None) (is q) ∙ ap (λ (b : Bool). unwrap_or (cond b (Some v) (noted old q)) None) same

  told_else : (q : List ℕ) → is_same q path ≡ false → told new q ≡ told old q
  told_else q apart = ap (λ (o : Option (Option Verdict)). unwrap_or o None) (is q) ∙ ap (λ (b : Bool). unwrap_or (cond b (Some v) (noted old q)) None) apart

  none_before : (q : List ℕ) → is_same q path ≡ true → told old q ≡ None
  none_before q same = ap (told old) (same_true q path same) ∙ ap (λ (o : Option (Option Verdict)). unwrap_or o None) fresh

  -- what was told before is told as before
  still : (q : List ℕ) → is_some (told old q) ≡ true → is_some (told new q) ≡ true
  still q had = elim (cases_Bool (is_same q path)) [
    | inl same ↦ absurd (true≢false (sym had ∙ ap (λ (o : Option Verdict). is_some o) (none_before q same)))
    | inr apart ↦ ap (λ (o : Option Verdict). is_some o) (told_else q apart) ∙ had
  ]

  -- something is said of it
  pub marked_said : AreMarked old → is_some v ≡ true → IsPath path → ((p : List ℕ) → (has_path new.keys p ≡ true) ↔ ((has_path old.keys p ≡ true) ⊎ (covers p path ≡ true))) → AreMarked new
  marked_said marked some path_is keys = record {
    keys = λ p. (
      λ has. elim ((keys p).0 has) [
        | inl had ↦ let w = (marked.keys p).0 had in (w.0, still w.0 w.1, w.2)
        | inr over ↦ (path, ap (λ (o : Option Verdict). is_some o) (told_here path (is_same_self path)) ∙ some, over)
      ],
      λ w. (keys p).1 (elim (cases_Bool (is_same w.0 path)) [
        | inl same ↦ inr (subst (λ (x : List ℕ). covers p x ≡ true) (same_true w.0 path same) w.2)
        | inr apart ↦ inl ((marked.keys p).1 (w.0, ap (λ (o : Option Verdict). is_some o) (sym (told_else w.0 apart)) ∙ w.1, w.2))
      ]),
    );
    proper = λ p has. elim ((keys p).0 has) [ inl had ↦ marked.proper p had | inr over ↦ covers_path p path path_is over ];
  }

  -- nothing is said of it
  pub marked_still : AreMarked old → is_some v ≡ false → new.keys ≡ old.keys → AreMarked new
  marked_still marked none same_keys = record {
    keys = λ p. (
      λ has. let w = (marked.keys p).0 (ap (λ (ks : _). has_path ks p) (sym same_keys) ∙ has) in (w.0, still w.0 w.1, w.2),
      λ w. elim (cases_Bool (is_same w.0 path)) [
        | inl same ↦ absurd (true≢false (sym w.1 ∙ ap (λ (o : Option Verdict). is_some o) (told_here w.0 same) ∙ none))
        | inr apart ↦ ap (λ (ks : _). has_path ks p) same_keys ∙ (marked.keys p).1 (w.0, ap (λ (o : Option Verdict). is_some o) (sym (told_else w.0 apart)) ∙ w.1, w.2)
      ],
    );
    proper = λ p has. marked.proper p (ap (λ (ks : _). has_path ks p) (sym same_keys) ∙ has);
  }
