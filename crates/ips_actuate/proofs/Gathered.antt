-- Sets of texts, as they grow.
use Rattle.std.proofs.Common.{◌≡◌, ◌⊎◌, inl, inr, ℕ, ◌+◌, ◌<◌, ◌≤◌, Bool, true, false, not, cond, List, [], ◌∷◌, ◌++◌, length, take, get_or, refl, sym, ap, ◌∙◌, subst, append_assoc, arith, codes}
use Rattle.std.specs.Prelude.{◌↔◌, Contains, Result, Ok, Err, OnOk}
use Rattle.std.specs.declared.cmp.Ordering.{Ordering}
use Rattle.std.specs.declared.cmp.Ordering.TheVariants.{Less, Equal, Greater}
use Rattle.std.specs.Ordering.{nat_cmp, is_eq}
use Rattle.std.specs.Cmp.Lexicographic.{slice_cmp}
use Rattle.std.specs.BTreeSet.{contains, Updates}
use Rattle.std.proofs.lemmas.Bool.{true≢false, false≢true}
use Rattle.std.proofs.lemmas.Cmp.{nat_list_cmp_total}
use Rattle.std.proofs.lemmas.List.{take_all, append-nil}
use Rattle.std.proofs.lemmas.List.Elements.{Contains-append_left, Contains-push, Contains-push_cases}
use Rattle.std.proofs.lemmas.Map.Views.{btree_set_contains_iff}
use Rattle.ips_text.proofs.Lists.{take_item}
use Rattle.ips_action.proofs.KeyOrder.{equal_is}
use Rattle.ips_action.specs.Attrs.{values_of}
use Rattle.ips_action.specs.Action.{Fields, line_text}
use Rattle.ips_actuate.specs.Gathering.{TextSet, Lacks, Gives, IsSetOf, IsGrown, Disables, Asks, key_text}

pub in_set : (set : TextSet) (text : List ℕ) → (contains (slice_cmp nat_cmp) set text ≡ true) ↔ Contains set.keys text
in_set set text = btree_set_contains_iff nat_list_cmp_total equal_is set text

pub lacks_is : (set : TextSet) (text : List ℕ) (has : Bool) → has ≡ contains (slice_cmp nat_cmp) set text → (not has ≡ true) ↔ Lacks set text
lacks_is set text true e = (λ h. absurd (false≢true h), λ lacks. absurd (lacks ((in_set set text).0 (sym e))))
lacks_is set text false e = (λ h has. true≢false (sym ((in_set set text).1 has) ∙ sym e), λ lacks. refl)

-- a text that is put in is there, and so are the others
pub put : (old new : TextSet) (text : List ℕ) → Updates (slice_cmp nat_cmp) old new text true → IsGrown (λ other. text ≡ other) old new
put old new text updates other = (
  λ h. there (slice_cmp nat_cmp text other) refl (updates.0 other) ((in_set new other).1 h),
  λ w. elim w [
    | inl had ↦ (in_set new other).0 (kept (is_eq (slice_cmp nat_cmp text other)) (contains (slice_cmp nat_cmp) old other) (updates.0 other) ((in_set old other).1 had))
    | inr same ↦ subst (λ (t : List ℕ). Contains new.keys t) same ((in_set new text).0 updates.1)
  ],
)
  where
    there : (o : Ordering) → slice_cmp nat_cmp text other ≡ o → contains (slice_cmp nat_cmp) new other ≡ cond (is_eq o) true (contains (slice_cmp nat_cmp) old other) → contains (slice_cmp nat_cmp) new other ≡ true → Contains old.keys other ⊎ (text ≡ other)
    there Less e is h = inl ((in_set old other).0 (sym is ∙ h))
    there Equal e is h = inr (equal_is text other e)
    there Greater e is h = inl ((in_set old other).0 (sym is ∙ h))

    kept : (tied had : Bool) → contains (slice_cmp nat_cmp) new other ≡ cond tied true had → had ≡ true → contains (slice_cmp nat_cmp) new other ≡ true
    kept true had is h = is
    kept false had is h = is ∙ h

-- ---- what items give, one after another

module _ {X : Type 0} (P : X → List ℕ → Type 0) where
  none_gives : (text : List ℕ) → Gives P [] text → ⊥
  none_gives text w = absurd (omega (arith, w.1.1))

  gives_push : (front : List X) (x : X) (text : List ℕ) → Gives P (front ++ x ∷ []) text ↔ (Gives P front text ⊎ P x text)
  gives_push front x text = (
    λ w. elim (Contains-push_cases front x w.0 w.1) [ inl in_front ↦ inl (w.0, in_front, w.2) | inr last ↦ inr (subst (λ (y : X). P y text) (sym last) w.2) ],
    λ w. elim w [ inl g ↦ (g.0, Contains-append_left front (x ∷ []) g.0 g.1, g.2) | inr p ↦ (x, Contains-push front x, p) ],
  )

  gives_more : (xs : List X) (i : ℕ) (x : X) → i < length xs → x ≡ get_or xs i x → (text : List ℕ) → Gives P (take (i + 1) xs) text ↔ (Gives P (take i xs) text ⊎ P x text)
  gives_more xs i x lt e text = subst (λ (front : List X). Gives P front text ↔ (Gives P (take i xs) text ⊎ P x text)) (sym (take_item xs i x lt e)) (gives_push (take i xs) x text)

  pub set_none : (set : TextSet) → set.keys ≡ [] → IsSetOf (Gives P []) set
  set_none set e text = (λ h. let w = subst (λ (keys : List (List ℕ)). Contains keys text) e h in absurd (omega (arith, w.1)), λ w. absurd (none_gives text w))

  pub set_more : (xs : List X) (i : ℕ) (x : X) (old new : TextSet) → i < length xs → x ≡ get_or xs i x → IsSetOf (Gives P (take i xs)) old → IsGrown (P x) old new → IsSetOf (Gives P (take (i + 1) xs)) new
  set_more xs i x old new lt e so_far grown text =
      let more = gives_more xs i x lt e text in (
        λ h. more.1 (elim ((grown text).0 h) [ inl had ↦ inl ((so_far text).0 had) | inr p ↦ inr p ]),
        λ w. (grown text).1 (elim (more.0 w) [ inl g ↦ inl ((so_far text).1 g) | inr p ↦ inr p ]),
      )

  pub set_done : (xs : List X) (i : ℕ) (set : TextSet) → length xs ≤ i → IsSetOf (Gives P (take i xs)) set → IsSetOf (Gives P xs) set
  set_done xs i set past all = subst (λ (front : List X). IsSetOf (Gives P front) set) (take_all i xs past) all

  pub grown_none : (set : TextSet) → IsGrown (Gives P []) set set
  grown_none set text = (λ h. inl h, λ w. elim w [ inl h ↦ h | inr g ↦ absurd (none_gives text g) ])

  grown_push : (front : List X) (x : X) (first old new : TextSet) → IsGrown (Gives P front) first old → IsGrown (P x) old new → IsGrown (Gives P (front ++ x ∷ [])) first new
  grown_push front x first old new so_far grown text =
      let more = gives_push front x text in (
        λ h. elim ((grown text).0 h) [ inl had ↦ elim ((so_far text).0 had) [ inl a ↦ inl a | inr g ↦ inr (more.1 (inl g)) ] | inr p ↦ inr (more.1 (inr p)) ],
        λ w. (grown text).1 (elim w [ inl a ↦ inl ((so_far text).1 (inl a)) | inr g ↦ elim (more.0 g) [ inl before ↦ inl ((so_far text).1 (inr before)) | inr p ↦ inr p ] ]),
      )

  pub grown_more : (xs : List X) (i : ℕ) (x : X) (first old new : TextSet) → i < length xs → x ≡ get_or xs i x → IsGrown (Gives P (take i xs)) first old → IsGrown (P x) old new → IsGrown (Gives P (take (i + 1) xs)) first new
  grown_more xs i x first old new lt e so_far grown = subst (λ (front : List X). IsGrown (Gives P front) first new) (sym (take_item xs i x lt e)) (grown_push (take i xs) x first old new so_far grown)

  pub grown_done : (xs : List X) (i : ℕ) (first set : TextSet) → length xs ≤ i → IsGrown (Gives P (take i xs)) first set → IsGrown (Gives P xs) first set
  grown_done xs i first set past all = subst (λ (front : List X). IsGrown (Gives P front) first set) (take_all i xs past) all

  -- the set has what the items before those that are left give
  pub record HasGrown (xs left : List X) (first set : TextSet) : Type 0 where
    pub front : List X
    pub parts : xs ≡ front ++ left
    pub grown : IsGrown (Gives P front) first set

  pub none_left_out : (xs : List X) (set : TextSet) → HasGrown xs xs set set
  none_left_out xs set = record { front = []; parts = refl; grown = grown_none set }

  pub one_taken : (xs left rest : List X) (x : X) (first old new : TextSet) → HasGrown xs left first old → left ≡ x ∷ rest → IsGrown (P x) old new → HasGrown xs rest first new
  one_taken xs left rest x first old new so_far next grown = record {
    front = so_far.front ++ x ∷ [];
    parts = so_far.parts ∙ ap (λ (l : List X). so_far.front ++ l) next ∙ sym (append_assoc so_far.front (x ∷ []) rest);
    grown = grown_push so_far.front x first old new so_far.grown grown;
  }

  pub all_taken : (xs left : List X) (first set : TextSet) → HasGrown xs left first set → left ≡ [] → IsGrown (Gives P xs) first set
  all_taken xs left first set so_far end =
      subst (λ (l : List X). IsGrown (Gives P l) first set) (sym (so_far.parts ∙ ap (λ (l : List X). so_far.front ++ l) end ∙ append-nil so_far.front)) so_far.grown

-- what holds of the same texts
pub grown_same : (P Q : List ℕ → Type 0) (old new : TextSet) → ((text : List ℕ) → P text → Q text) → ((text : List ℕ) → Q text → P text) → IsGrown P old new → IsGrown Q old new
grown_same P Q old new to from grown text = (
  λ h. elim ((grown text).0 h) [ inl had ↦ inl had | inr p ↦ inr (to text p) ],
  λ w. (grown text).1 (elim w [ inl had ↦ inl had | inr q ↦ inr (from text q) ]),
)

pub grown_by_none : (P : List ℕ → Type 0) (set : TextSet) → ((text : List ℕ) → P text → ⊥) → IsGrown P set set
grown_by_none P set none text = (λ h. inl h, λ w. elim w [ inl h ↦ h | inr p ↦ absurd (none text p) ])

pub empty_lacks : (set : TextSet) (text : List ℕ) → set.keys ≡ [] → Lacks set text
empty_lacks set text e has = let w = subst (λ (keys : List (List ℕ)). Contains keys text) e has in absurd (omega (arith, w.1))

-- the same where a call is done
pub if_grown : {E : Type 0} (P Q : List ℕ → Type 0) (old new : TextSet) (r : Result (Unit {0}) E) → (IsGrown P old new → IsGrown Q old new) → OnOk r (IsGrown P old new) → OnOk r (IsGrown Q old new)
if_grown P Q old new (Ok x) f p = f p
if_grown P Q old new (Err e) f p = tt

-- those that an action disables
pub disables_are : (lines keys none old new : TextSet) (a : Fields) (texts : List (List ℕ)) → texts ≡ values_of (codes "disable_fmri") a.attrs → none.keys ≡ [] → Lacks lines (line_text a) → Lacks keys (key_text a)
    → IsGrown (λ text. Contains texts text × Lacks none text) old new → IsGrown (Disables lines keys a) old new
disables_are lines keys none old new a texts e empty no_line no_key =
    grown_same (λ text. Contains texts text × Lacks none text) (Disables lines keys a) old new (λ text w. (no_line, no_key, subst (λ (ts : List (List ℕ)). Contains ts text) e w.0))
    (λ text w. (subst (λ (ts : List (List ℕ)). Contains ts text) (sym e) w.2, empty_lacks none text empty))

-- those that an action asks for
pub asks_are : (key : List ℕ) (lines disabled old new : TextSet) (a : Fields) (texts : List (List ℕ)) → texts ≡ values_of key a.attrs → Lacks lines (line_text a) → IsGrown (λ text. Contains texts text × Lacks disabled text) old new
    → IsGrown (Asks key lines disabled a) old new
asks_are key lines disabled old new a texts e no_line =
    grown_same (λ text. Contains texts text × Lacks disabled text) (Asks key lines disabled a) old new (λ text w. (no_line, subst (λ (ts : List (List ℕ)). Contains ts text) e w.0, w.1))
    (λ text w. (subst (λ (ts : List (List ℕ)). Contains ts text) (sym e) w.1, w.2))

-- a copy that is put in, where it isn't among others
pub put_lacking : (text copy : List ℕ) (others old new : TextSet) → copy ≡ text → Lacks others copy → IsGrown (λ other. copy ≡ other) old new → IsGrown (λ other. (text ≡ other) × Lacks others other) old new
put_lacking text copy others old new e lacks =
    grown_same (λ other. copy ≡ other) (λ other. (text ≡ other) × Lacks others other) old new (λ other is. (sym e ∙ is, subst (Lacks others) is lacks)) (λ other w. e ∙ w.0)
