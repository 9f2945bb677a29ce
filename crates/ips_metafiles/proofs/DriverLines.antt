-- The lines of drivers in a set.
use Rattle.std.proofs.Common.{◌≡◌, ◌⊎◌, inl, inr, ℕ, zero, suc, ◌+◌, ◌<◌, ◌≤◌, Bool, true, false, cond, List, [], ◌∷◌, length, take, get_or, refl, sym, ◌∙◌, subst, arith}
use Rattle.std.specs.Prelude.{◌↔◌, Contains, Result, Ok, Err, OnOk}
use Rattle.std.specs.declared.cmp.Ordering.{Ordering}
use Rattle.std.specs.declared.cmp.Ordering.TheVariants.{Less, Equal, Greater}
use Rattle.std.specs.Ordering.{nat_cmp, is_eq}
use Rattle.std.specs.Cmp.Lexicographic.{slice_cmp}
use Rattle.std.specs.BTreeSet.{BTreeSet, contains, Updates}
use Rattle.std.proofs.lemmas.Cmp.{nat_list_cmp_total}
use Rattle.std.proofs.lemmas.List.{take_all}
use Rattle.std.proofs.lemmas.List.Elements.{Contains-append_left, Contains-append_right, Contains-append_cases}
use Rattle.std.proofs.lemmas.Map.Views.{btree_set_contains_iff}
use Rattle.ips_text.proofs.Lists.{take_item}
use Rattle.ips_action.specs.declared.kind.ActionKind.TheVariants.{Driver}
use Rattle.ips_action.specs.Action.{Fields, line_text}
use Rattle.ips_action.proofs.KeyOrder.{equal_is}
use Rattle.ips_metafiles.specs.Records.{IsDriverLine}

abbrev pub LineSet : Type 0
LineSet = BTreeSet (List ℕ)

is_in : (lines : LineSet) (line : List ℕ) → (contains (slice_cmp nat_cmp) lines line ≡ true) ↔ Contains lines.keys line
is_in lines line = btree_set_contains_iff nat_list_cmp_total equal_is lines line

-- a line that is put in
pub line_put : (old new : LineSet) (line other : List ℕ) → Updates (slice_cmp nat_cmp) old new line true → Contains new.keys other ↔ (Contains old.keys other ⊎ (other ≡ line))
line_put old new line other updates = (
  λ h. there (slice_cmp nat_cmp line other) refl (updates.0 other) ((is_in new other).1 h),
  λ w. elim w [
    | inl had ↦ (is_in new other).0 (kept (is_eq (slice_cmp nat_cmp line other)) (contains (slice_cmp nat_cmp) old other) (updates.0 other) ((is_in old other).1 had))
    | inr same ↦ subst (λ (t : List ℕ). Contains new.keys t) (sym same) ((is_in new line).0 updates.1)
  ],
)
  where
    there : (o : Ordering) → slice_cmp nat_cmp line other ≡ o → contains (slice_cmp nat_cmp) new other ≡ cond (is_eq o) true (contains (slice_cmp nat_cmp) old other) → contains (slice_cmp nat_cmp) new other ≡ true → Contains old.keys other ⊎ (other ≡ line)
    there Less e is h = inl ((is_in old other).0 (sym is ∙ h))
    there Equal e is h = inr (sym (equal_is line other e))
    there Greater e is h = inl ((is_in old other).0 (sym is ∙ h))

    kept : (tied had : Bool) → contains (slice_cmp nat_cmp) new other ≡ cond tied true had → had ≡ true → contains (slice_cmp nat_cmp) new other ≡ true
    kept true had is h = is
    kept false had is h = is ∙ h

-- the set has the lines of the drivers among these
abbrev pub HasLines : List Fields → LineSet → Type 0
HasLines actions lines = (line : List ℕ) → Contains lines.keys line ↔ IsDriverLine actions line

-- the only action of a list
only : (a b : Fields) → Contains (a ∷ []) b → a ≡ b
only a b h = elim (Contains-append_cases [] (a ∷ []) b h) [ inl none ↦ absurd (omega (arith, none.1)) | inr one ↦ first one.0 one.1 one.2 ]
  where
    first : (k : ℕ) → k < 1 → get_or (a ∷ []) k b ≡ b → a ≡ b
    first zero lt e = e
    first (suc k) lt e = absurd (omega (arith, lt))

-- the line of a driver
pub driver_put : {E : Type 0} (old new : LineSet) (r : Result (Unit {0}) E) (a : Fields) (line : List ℕ) → a.kind ≡ Driver → line ≡ line_text a → OnOk r ((other : List ℕ) → Contains new.keys other ↔ (Contains old.keys other ⊎ (other ≡ line)))
    → OnOk r ((other : List ℕ) → Contains new.keys other ↔ (Contains old.keys other ⊎ IsDriverLine (a ∷ []) other))
driver_put old new (Err none) a line kind e put = tt
driver_put old new (Ok x) a line kind e put = λ other. (
  λ h. elim ((put other).0 h) [ inl had ↦ inl had | inr is ↦ inr (record { action = a; stands = (0, omega arith, refl); driver = kind; line_is = is ∙ e }) ],
  λ w. (put other).1 (elim w [ inl had ↦ inl had | inr d ↦ inr (subst (λ (b : Fields). other ≡ line_text b) (sym (only a d.action d.stands)) d.line_is ∙ sym e) ]),
)

pub lines_none : (lines : LineSet) → lines.keys ≡ [] → HasLines [] lines
lines_none lines e line = (λ h. let w = subst (λ (keys : List (List ℕ)). Contains keys line) e h in absurd (omega (arith, w.1)), λ d. absurd (omega (arith, d.stands.1)))

pub lines_more : (actions : List Fields) (i : ℕ) (a : Fields) (old new : LineSet) → i < length actions → a ≡ get_or actions i a → HasLines (take i actions) old
    → ((line : List ℕ) → Contains new.keys line ↔ (Contains old.keys line ⊎ IsDriverLine (a ∷ []) line)) → HasLines (take (i + 1) actions) new
lines_more actions i a old new lt e so_far put = subst (λ (front : List Fields). HasLines front new) (sym (take_item actions i a lt e)) (λ line. (
  λ h. elim ((put line).0 h) [
    | inl had ↦ let d = (so_far line).0 had in record { action = d.action; stands = Contains-append_left (take i actions) (a ∷ []) d.action d.stands; driver = d.driver; line_is = d.line_is }
    | inr d ↦ record { action = d.action; stands = Contains-append_right (take i actions) (a ∷ []) d.action d.stands; driver = d.driver; line_is = d.line_is }
  ],
  λ d. (put line).1 (elim (Contains-append_cases (take i actions) (a ∷ []) d.action d.stands) [
    | inl before ↦ inl ((so_far line).1 (record { action = d.action; stands = before; driver = d.driver; line_is = d.line_is }))
    | inr last ↦ inr (record { action = d.action; stands = last; driver = d.driver; line_is = d.line_is })
  ]),
))

pub lines_done : (actions : List Fields) (i : ℕ) (lines : LineSet) → length actions ≤ i → HasLines (take i actions) lines → HasLines actions lines
lines_done actions i lines past all = subst (λ (front : List Fields). HasLines front lines) (take_all i actions past) all
