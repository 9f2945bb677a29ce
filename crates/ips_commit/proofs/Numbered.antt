-- The names of the first so many marks, and what is taken away by them or but for them.
use Rattle.std.proofs.Common.{◌≡◌, ◌⊎◌, inl, inr, ⊎_elim, ℕ, zero, suc, ◌+◌, ◌<◌, Bool, true, false, not, eqb, ◌||◌, ◌&&◌, List, [], ◌∷◌, length, take, get_or, None, is_some, refl, sym, ◌∙◌, ap, subst, arith}
use Rattle.std.specs.List.{list_all, list_any}
use Rattle.std.specs.Cmp.Lexicographic.{pointwise}
use Rattle.std.proofs.lemmas.Bool.{and_parts, and_from, or_parts, or_from, or_cases, or_left, or_right, cases_lt, not-true, not_from_false, false_from_ne_true}
use Rattle.std.proofs.lemmas.List.Folds.{list_any_more}
use Rattle.ips_text.specs.Ancestry.{same_path, covers}
use Rattle.ips_text.specs.Kept.{Kept}
use Rattle.ips_text.proofs.Ancestry.{same_path-true, same_path-self}
use Rattle.ips_outside.specs.Image.{Image}
use Rattle.ips_outside.specs.Change.{with_entry_at}
use Rattle.ips_outside.specs.Children.{path_bytes}
use Rattle.ips_steps.specs.Private.{mark_front, mark_name, begins}
use Rattle.ips_steps.proofs.Lists.{clash}
use Rattle.ips_steps.proofs.Numbered.{one_mark}
use Rattle.ips_steps.proofs.PrivateNames.{begins_below}
use Rattle.ips_commit.specs.Pending.{HasNoOtherMark, AreMarkNames, mark_names, is_other}
use Rattle.ips_commit.proofs.Swept.{removed_gone, removed_none}

-- ---- which names are among them

pub same_is : (p q : List ℕ) → pointwise eqb p q ≡ same_path p q
same_is [] [] = refl
same_is [] (b ∷ q) = refl
same_is (a ∷ p) [] = refl
same_is (a ∷ p) (b ∷ q) = ap (λ (x : Bool). eqb a b && x) (same_is p q)

module _ (test : List ℕ → Bool) where
  pub any_here : (n count : ℕ) → n < count → test (mark_name (n + 1)) ≡ true → list_any test (mark_names count) ≡ true
  any_here n zero lt is = absurd (omega (arith, lt))
  any_here n (suc count) lt is = elim (cases_lt n count) [
    | inl below ↦ or_right (test (mark_name (suc count))) _ (any_here n count below is)
    | inr up ↦ let same : n + 1 ≡ suc count = omega (arith, lt, up) in or_left _ _ (subst (λ (k : ℕ). test (mark_name k) ≡ true) same is)
  ]

  next : (n : ℕ) → suc n ≡ n + 1
  next n = omega arith

  pub none_more : (n : ℕ) → list_any test (mark_names n) ≡ false → test (mark_name (n + 1)) ≡ false → list_any test (mark_names (n + 1)) ≡ false
  none_more n before off = subst (λ (k : ℕ). list_any test (mark_names k) ≡ false) (next n) (or_from (test (mark_name (suc n))) _ (subst (λ (k : ℕ). test (mark_name k) ≡ false) (sym (next n)) off) before)

  pub any_more : (n : ℕ) → list_any test (mark_names (n + 1)) ≡ true → (test (mark_name (n + 1)) ≡ true) ⊎ (list_any test (mark_names n) ≡ true)
  any_more n is =
      let split = or_cases (test (mark_name (suc n))) (list_any test (mark_names n)) (subst (λ (k : ℕ). list_any test (mark_names k) ≡ true) (sym (next n)) is) in
      ⊎_elim (λ here. inl (subst (λ (k : ℕ). test (mark_name k) ≡ true) (next n) here)) (λ before. inr before) split

-- one mark less, of the first so many
pub gone_numbered : (n : ℕ) (p : List ℕ) (t u : Image) (q : List ℕ) → p ≡ mark_name (n + 1) → u ≡ with_entry_at p None t → (list_any (λ m. covers m q) (mark_names n) ≡ true → t.look q ≡ None)
    → list_any (λ m. covers m q) (mark_names (n + 1)) ≡ true → u.look q ≡ None
gone_numbered n p t u q is made before now = ap (λ (v : Image). v.look q) made ∙ ⊎_elim
    (λ here. removed_gone p q t (ap (λ (x : List ℕ). covers x q) is ∙ here))
    (λ earlier. removed_none p q t (before earlier))
    (any_more (λ m. covers m q) n now)

-- ---- the others among some marks

-- the name is none of the kept ones
abbrev pub is_spare : List (List ℕ) → List ℕ → Bool
is_spare kept m = not (list_any (λ k. same_path k m) kept)

pub other_bytes : (kept : List (List ℕ)) (marks : List Kept) (q : List ℕ) → is_other kept (path_bytes marks) q ≡ list_any (λ (k : Kept). is_spare kept k.bytes && covers k.bytes q) marks
other_bytes kept [] q = refl
other_bytes kept (m ∷ marks) q = ap (λ (x : Bool). (is_spare kept m.bytes && covers m.bytes q) || x) (other_bytes kept marks q)

module _ (kept : List (List ℕ)) (marks : List Kept) where
  abbrev At : ℕ → List ℕ → Type 0
  At i q = list_any (λ (k : Kept). is_spare kept k.bytes && covers k.bytes q) (take i marks) ≡ true

  module _ (i : ℕ) (m : Kept) (lt : i < length marks) (is : m ≡ get_or marks i m) where
    split : (q : List ℕ) → At (i + 1) q → At i q ⊎ ((is_spare kept m.bytes && covers m.bytes q) ≡ true)
    split q now = ⊎_elim (λ before. inl before) (λ here. inr (ap (λ (k : Kept). is_spare kept k.bytes && covers k.bytes q) is ∙ here))
        (or_cases (list_any (λ (k : Kept). is_spare kept k.bytes && covers k.bytes q) (take i marks)) _ (sym (list_any_more (λ (k : Kept). is_spare kept k.bytes && covers k.bytes q) marks i m lt) ∙ now))

    -- a spare one is taken away
    pub spare_gone : (t u : Image) (q : List ℕ) → u ≡ with_entry_at m.bytes None t → (At i q → t.look q ≡ None) → At (i + 1) q → u.look q ≡ None
    spare_gone t u q made before now = ap (λ (v : Image). v.look q) made ∙ ⊎_elim
        (λ earlier. removed_none m.bytes q t (before earlier))
        (λ here. removed_gone m.bytes q t (and_parts (is_spare kept m.bytes) _ here).1)
        (split q now)

    -- a kept one stays
    pub kept_stays : (t : Image) (q : List ℕ) → list_any (λ k. same_path k m.bytes) kept ≡ true → (At i q → t.look q ≡ None) → At (i + 1) q → t.look q ≡ None
    kept_stays t q among before now = ⊎_elim before
        (λ here. absurd (clash (list_any (λ k. same_path k m.bytes) kept) among (not-true _ (and_parts (is_spare kept m.bytes) _ here).0)))
        (split q now)

    -- what is taken away is another one's
    pub spare_off : is_spare kept m.bytes ≡ true → (q : List ℕ) → is_other kept (path_bytes marks) q ≡ false → covers m.bytes q ≡ false
    spare_off spare q off = false_from_ne_true _ (λ c. clash (list_any (λ (k : Kept). is_spare kept k.bytes && covers k.bytes q) marks) (there marks i lt is (and_from (is_spare kept m.bytes) _ spare c)) (sym (other_bytes kept marks q) ∙ off))
      where
        there : (l : List Kept) (n : ℕ) → n < length l → m ≡ get_or l n m → (is_spare kept m.bytes && covers m.bytes q) ≡ true → list_any (λ (k : Kept). is_spare kept k.bytes && covers k.bytes q) l ≡ true
        there [] n lt is hit = absurd (omega (arith, lt))
        there (x ∷ l) zero lt is hit = or_left _ _ (subst (λ (k : Kept). (is_spare kept k.bytes && covers k.bytes q) ≡ true) is hit)
        there (x ∷ l) (suc n) lt is hit = or_right (is_spare kept x.bytes && covers x.bytes q) _ (there l n (omega (arith, lt)) is hit)

-- what is neither at nor below another one is at or below a kept one, or was no mark
pub no_others : (count : ℕ) (marks : List (List ℕ)) (t u : Image) → HasNoOtherMark t marks → ((q : List ℕ) → is_other (mark_names count) marks q ≡ true → u.look q ≡ None) → ((q : List ℕ) → t.look q ≡ None → u.look q ≡ None)
    → HasNoOtherMark u (mark_names count)
no_others count marks t u others gone nothing_new q b off = go (is_other (mark_names count) marks q) refl
  where
    -- a name above the path that is no other one is a kept one
    hit : (l : List (List ℕ)) → is_other (mark_names count) l q ≡ false → list_any (λ m. covers m q) l ≡ false
    hit [] none = refl
    hit (m ∷ l) none =
        let parts = or_parts (is_spare (mark_names count) m && covers m q) _ none in
        or_from (covers m q) _ (false_from_ne_true _ (λ c. kept m c (list_any (λ k. same_path k m) (mark_names count)) refl parts.0)) (hit l parts.1)
      where
        is_kept : (m : List ℕ) (names : List (List ℕ)) → list_any (λ k. same_path k m) names ≡ true → covers m q ≡ true → list_any (λ k. covers k q) names ≡ true
        is_kept m [] among c = cc
        is_kept m (x ∷ names) among c = ⊎_elim
            (λ here. or_left _ _ (ap (λ (y : List ℕ). covers y q) (same_path-true x m here) ∙ c))
            (λ later. or_right (covers x q) _ (is_kept m names later c))
            (or_cases (same_path x m) _ among)

        kept : (m : List ℕ) → covers m q ≡ true → (s : Bool) → list_any (λ k. same_path k m) (mark_names count) ≡ s → (not (list_any (λ k. same_path k m) (mark_names count)) && covers m q) ≡ false → ⊥
        kept m c true among none = clash (list_any (λ k. covers k q) (mark_names count)) (is_kept m (mark_names count) among c) off
        kept m c false among none = clash _ (and_from _ _ (not_from_false _ among) c) none

    go : (s : Bool) → is_other (mark_names count) marks q ≡ s → u.look q ≡ None
    go true is = gone q is
    go false is = nothing_new q (others q b (hit marks is))

-- what is taken away is at marks
pub other_own : (kept marks : List (List ℕ)) → list_all (begins mark_front) marks ≡ true → (q : List ℕ) → is_other kept marks q ≡ true → begins mark_front q ≡ true
other_own kept [] own q is = cc
other_own kept (m ∷ marks) own q is =
    let parts = and_parts (begins mark_front m) _ own in
    ⊎_elim (λ here. begins_below mark_front m q parts.0 (and_parts (is_spare kept m) _ here).1) (λ later. other_own kept marks parts.1 q later) (or_cases (is_spare kept m && covers m q) _ is)

-- but the kept ones stay
pub other_keeps : (count i : ℕ) (marks : List (List ℕ)) → list_all (begins mark_front) marks ≡ true → i < count → is_other (mark_names count) marks (mark_name (i + 1)) ≡ false
other_keeps count i [] own lt = refl
other_keeps count i (m ∷ marks) own lt =
    let parts = and_parts (begins mark_front m) _ own in
    or_from (is_spare (mark_names count) m && covers m (mark_name (i + 1))) _ (false_from_ne_true _ (λ hit.
    let both = and_parts (is_spare (mark_names count) m) _ hit in
    let same : m ≡ mark_name (i + 1) = one_mark m (i + 1) parts.0 both.1 in
    clash (list_any (λ k. same_path k m) (mark_names count)) (any_here (λ k. same_path k m) i count lt (subst (λ (x : List ℕ). same_path (mark_name (i + 1)) x ≡ true) (sym same) (same_path-self (mark_name (i + 1))))) (not-true _ both.0)))
    (other_keeps count i marks parts.1 lt)

-- and so does a name at which nothing stood
pub other_absent : (t : Image) (kept marks : List (List ℕ)) (n : ℕ) → list_all (begins mark_front) marks ≡ true → AreMarkNames t marks → t.look (mark_name n) ≡ None → is_other kept marks (mark_name n) ≡ false
other_absent t kept marks n own are none = go marks own are.stand
  where
    go : (l : List (List ℕ)) → list_all (begins mark_front) l ≡ true → list_all (λ m. is_some (t.look m)) l ≡ true → is_other kept l (mark_name n) ≡ false
    go [] own stand = refl
    go (m ∷ l) own stand =
        let parts = and_parts (begins mark_front m) _ own in
        let stands = and_parts (is_some (t.look m)) _ stand in
        or_from (is_spare kept m && covers m (mark_name n)) _ (false_from_ne_true _ (λ hit.
        let same : m ≡ mark_name n = one_mark m n parts.0 (and_parts (is_spare kept m) _ hit).1 in
        let gone : is_some (t.look m) ≡ false = ap (λ (x : List ℕ). is_some (t.look x)) same ∙ ap is_some none in
        clash (is_some (t.look m)) stands.0 gone))
        (go l parts.1 stands.1)
