-- Lists in order: what ties keeps its order, so there is one such list.
use Rattle.std.proofs.Common.{◌≡◌, ℕ, suc, ◌+◌, ◌<◌, Bool, true, false, not, cond, ◌&&◌, List, [], ◌∷◌, ◌++◌, length, get_or, drop, filter, refl, sym, ap, subst, ◌∙◌, arith}
use Rattle.std.specs.Ordering.{is_lt}
use Rattle.std.specs.declared.cmp.Ordering.{Ordering}
use Rattle.std.specs.Cmp.{IsStrictWeakOrder, then_total, on_total, nat_cmp_total}
use Rattle.std.specs.Cmp.Lexicographic.{lists_total}
use Rattle.std.specs.List.{AllByRecursion}
use Rattle.std.specs.List.Sorted.{IsSortedBy, IsStableBy, ties}
use Rattle.std.proofs.lemmas.Bool.{and_parts, true≢false}
use Rattle.std.proofs.lemmas.List.{append-nil, append_assoc}
use Rattle.std.proofs.lemmas.List.Elements.{filter-append}
use Rattle.std.proofs.lemmas.List.Sorted.{sorted_far, ranks_by}
use Rattle.ips_text.proofs.Truths.{not_true}
use Rattle.ips_action.specs.Action.{Fields, line_text}
use Rattle.ips_turnover.specs.Turnover.{by_place, ordered, ordered_with, name_cmp}

-- None is less than one before it.
abbrev Rises : {X : Type 0} → (X → X → Bool) → List X → Type 0
Rises lt [] = Unit {0}
Rises lt (x ∷ xs) = AllByRecursion (λ y. lt y x ≡ false) xs × Rises lt xs

module _ {X : Type 0} (lt : X → X → Bool) (o : IsStrictWeakOrder lt) where
  all_at : (P : X → Type 0) (xs : List X) → ((k : ℕ) (d : X) → k < length xs → P (get_or xs k d)) → AllByRecursion P xs
  all_at P [] h = tt
  all_at P (x ∷ xs) h = (h 0 x (omega arith), all_at P xs (λ k d b. h (suc k) d (omega (arith, b))))

  rises : (xs : List X) → IsSortedBy lt xs → Rises lt xs
  rises [] up = tt
  rises (x ∷ xs) up = (
    all_at (λ y. lt y x ≡ false) xs (λ k d b. sorted_far lt o (x ∷ xs) up 0 (suc k) d (omega arith) (omega (arith, b))),
    rises xs (λ k d low high. subst (λ (n : ℕ). lt (get_or (x ∷ xs) n d) (get_or xs k d) ≡ false) (next k) (up (suc k) d (omega arith) (omega (arith, high)))),
  )
    where
      next : (k : ℕ) → suc k + 1 ≡ suc (k + 1)
      next k = omega arith

  irreflexive : (x : X) → lt x x ≡ false
  irreflexive x = go (lt x x) refl
    where
      go : (t : Bool) → lt x x ≡ t → t ≡ false
      go true e = sym e ∙ o.one_way x x e
      go false e = refl

  tie_left : (x y : X) → ties lt x y ≡ true → lt x y ≡ false
  tie_left x y e = not_true (lt x y) (and_parts (not (lt x y)) (not (lt y x)) e).0

  tie_right : (x y : X) → ties lt x y ≡ true → lt y x ≡ false
  tie_right x y e = not_true (lt y x) (and_parts (not (lt x y)) (not (lt y x)) e).1

  are_tied : (x y : X) → lt x y ≡ false → lt y x ≡ false → ties lt x y ≡ true
  are_tied x y e f = (λ i. not (e i) && not (f i))

  -- what something in the list ties with isn't less than what is no greater than all of it
  some_tie : (x y : X) (zs : List X) → AllByRecursion (λ z. lt z y ≡ false) zs → (filter (ties lt x) zs ≡ [] → ⊥) → lt x y ≡ false
  some_tie x y [] all some = absurd (some refl)
  some_tie x y (z ∷ zs) all some = go (ties lt x z) refl some (some_tie x y zs all.1)
    where
      go : (t : Bool) → ties lt x z ≡ t → (cond t (z ∷ filter (ties lt x) zs) (filter (ties lt x) zs) ≡ [] → ⊥) → ((filter (ties lt x) zs ≡ [] → ⊥) → lt x y ≡ false) → lt x y ≡ false
      go true e some later = o.chain x z y (tie_left x z e) all.0
      go false e some later = later some

  first_tied : (x y : X) (ys : List X) → ties lt x y ≡ true → filter (ties lt x) (y ∷ ys) ≡ y ∷ filter (ties lt x) ys
  first_tied x y ys e = ap (λ (t : Bool). cond t (y ∷ filter (ties lt x) ys) (filter (ties lt x) ys)) e

  one_tied : (x : X) (xs : List X) → filter (ties lt x) (x ∷ xs) ≡ x ∷ filter (ties lt x) xs
  one_tied x xs = first_tied x x xs (are_tied x x (irreflexive x) (irreflexive x))

  no_less : (x y : X) (xs ys : List X) → AllByRecursion (λ z. lt z y ≡ false) ys → filter (ties lt x) (x ∷ xs) ≡ filter (ties lt x) (y ∷ ys) → lt x y ≡ false
  no_less x y xs ys all e = some_tie x y (y ∷ ys) (irreflexive y, all) (λ none. some (sym (one_tied x xs) ∙ e ∙ none))
    where
      some : x ∷ filter (ties lt x) xs ≡ [] → ⊥
      some e = cc

  one_first : (x y : X) (xs ys : List X) → AllByRecursion (λ z. lt z x ≡ false) xs → AllByRecursion (λ z. lt z y ≡ false) ys → ((d : X) → filter (ties lt d) (x ∷ xs) ≡ filter (ties lt d) (y ∷ ys)) → x ≡ y
  one_first x y xs ys above_x above_y e =
      let tied = are_tied x y (no_less x y xs ys above_y (e x)) (no_less y x ys xs above_x (sym (e y))) in
      ap (λ (l : List X). get_or l 0 x) (sym (one_tied x xs) ∙ e x ∙ first_tied x y ys tied)

  behind_same : (t : Bool) (x : X) (xs ys : List X) → cond t (x ∷ xs) xs ≡ cond t (x ∷ ys) ys → xs ≡ ys
  behind_same true x xs ys e = ap (drop 1) e
  behind_same false x xs ys e = e

  -- Two lists in order that have the same ties are one.
  one_order : (xs ys : List X) → Rises lt xs → Rises lt ys → ((d : X) → filter (ties lt d) xs ≡ filter (ties lt d) ys) → xs ≡ ys
  one_order [] [] a b e = refl
  one_order [] (y ∷ ys) a b e = absurd (none (e y ∙ one_tied y ys))
    where
      none : [] ≡ y ∷ filter (ties lt y) ys → ⊥
      none e = cc
  one_order (x ∷ xs) [] a b e = absurd (none (sym (e x) ∙ one_tied x xs))
    where
      none : [] ≡ x ∷ filter (ties lt x) xs → ⊥
      none e = cc
  one_order (x ∷ xs) (y ∷ ys) a b e =
      let same = one_first x y xs ys a.0 b.0 e in
      let rest = one_order xs ys a.1 b.1 (λ d. behind_same (ties lt d x) x (filter (ties lt d) xs) (filter (ties lt d) ys) (e d ∙ ap (λ (z : X). filter (ties lt d) (z ∷ ys)) (sym same))) in
      (λ i. same i ∷ rest i)

-- ---- actions that are placed one after another

pub all_placed : (P : Fields → Type 0) (cmp : Fields → Fields → Ordering) (a : Fields) (actions : List Fields) → P a → AllByRecursion P actions → AllByRecursion P (by_place cmp a actions)
all_placed P cmp a [] p all = (p, all)
all_placed P cmp a (b ∷ actions) p all = go (is_lt (cmp a b)) (all_placed P cmp a actions p all.1)
  where
    go : (t : Bool) → AllByRecursion P (by_place cmp a actions) → AllByRecursion P (cond t (a ∷ b ∷ actions) (b ∷ by_place cmp a actions))
    go true rest = (p, all)
    go false rest = (all.0, rest)

module _ (cmp : Fields → Fields → Ordering) (o : IsStrictWeakOrder (λ x y. is_lt (cmp x y))) where
  abbrev less : Fields → Fields → Bool
  less x y = is_lt (cmp x y)

  no_ties : (d a b : Fields) (ys : List Fields) → less a b ≡ true → ties less d a ≡ true → AllByRecursion (λ y. less y b ≡ false) ys → filter (ties less d) ys ≡ []
  no_ties d a b [] e t all = refl
  no_ties d a b (y ∷ ys) e t all = go (ties less d y) refl (no_ties d a b ys e t all.1)
    where
      go : (s : Bool) → ties less d y ≡ s → filter (ties less d) ys ≡ [] → cond s (y ∷ filter (ties less d) ys) (filter (ties less d) ys) ≡ []
      go true h rest = absurd (true≢false (sym e ∙ o.chain a y b (o.chain a d y (tie_right less o d a t) (tie_left less o d y h)) all.0))
      go false h rest = rest

  not_back : (a b : Fields) (ys : List Fields) → less a b ≡ true → AllByRecursion (λ y. less y b ≡ false) ys → AllByRecursion (λ y. less y a ≡ false) ys
  not_back a b [] e all = tt
  not_back a b (y ∷ ys) e all = (o.chain y b a all.0 (o.one_way a b e), not_back a b ys e all.1)

  placed_rises : (a : Fields) (xs : List Fields) → Rises less xs → Rises less (by_place cmp a xs)
  placed_rises a [] up = (tt, tt)
  placed_rises a (b ∷ xs) up = go (less a b) refl (placed_rises a xs up.1)
    where
      go : (t : Bool) → less a b ≡ t → Rises less (by_place cmp a xs) → Rises less (cond t (a ∷ b ∷ xs) (b ∷ by_place cmp a xs))
      go true e rest = ((o.one_way a b e, not_back a b xs e up.0), up)
      go false e rest = (all_placed (λ y. less y b ≡ false) cmp a xs e up.0, rest)

  placed_ties : (d a : Fields) (xs : List Fields) → Rises less xs → filter (ties less d) (by_place cmp a xs) ≡ filter (ties less d) xs ++ filter (ties less d) (a ∷ [])
  placed_ties d a [] up = refl
  placed_ties d a (b ∷ xs) up = go (less a b) refl (placed_ties d a xs up.1)
    where
      front : (t : Bool) → ties less d a ≡ t → less a b ≡ true → cond t (a ∷ filter (ties less d) (b ∷ xs)) (filter (ties less d) (b ∷ xs)) ≡ filter (ties less d) (b ∷ xs) ++ cond t (a ∷ []) []
      front true h e = let none = no_ties d a b (b ∷ xs) e h (irreflexive less o b, up.0) in ap (λ (l : List Fields). a ∷ l) none ∙ ap (λ (l : List Fields). l ++ a ∷ []) (sym none)
      front false h e = sym (append-nil (filter (ties less d) (b ∷ xs)))

      behind : (t : Bool) (one two more : List Fields) → one ≡ two ++ more → cond t (b ∷ one) one ≡ cond t (b ∷ two) two ++ more
      behind true one two more e = ap (λ (l : List Fields). b ∷ l) e
      behind false one two more e = e

      go : (t : Bool) → less a b ≡ t → filter (ties less d) (by_place cmp a xs) ≡ filter (ties less d) xs ++ filter (ties less d) (a ∷ [])
          → filter (ties less d) (cond t (a ∷ b ∷ xs) (b ∷ by_place cmp a xs)) ≡ filter (ties less d) (b ∷ xs) ++ filter (ties less d) (a ∷ [])
      go true e rest = front (ties less d a) refl e
      go false e rest = behind (ties less d b) (filter (ties less d) (by_place cmp a xs)) (filter (ties less d) xs) (filter (ties less d) (a ∷ [])) rest

  ordered_rises : (actions sorted : List Fields) → Rises less sorted → Rises less (ordered_with cmp actions sorted)
  ordered_rises [] sorted up = up
  ordered_rises (a ∷ actions) sorted up = ordered_rises actions (by_place cmp a sorted) (placed_rises a sorted up)

  ordered_ties : (d : Fields) (actions sorted : List Fields) → Rises less sorted → filter (ties less d) (ordered_with cmp actions sorted) ≡ filter (ties less d) sorted ++ filter (ties less d) actions
  ordered_ties d [] sorted up = sym (append-nil (filter (ties less d) sorted))
  ordered_ties d (a ∷ actions) sorted up =
      ordered_ties d actions (by_place cmp a sorted) (placed_rises a sorted up)
      ∙ ap (λ (l : List Fields). l ++ filter (ties less d) actions) (placed_ties d a sorted up)
      ∙ append_assoc (filter (ties less d) sorted) (filter (ties less d) (a ∷ [])) (filter (ties less d) actions)
      ∙ ap (λ (l : List Fields). filter (ties less d) sorted ++ l) (sym (filter-append (ties less d) (a ∷ []) actions))

  start : Rises less []
  start = tt

  -- A stable sort of the actions gives them in order.
  pub sorted_is : (actions sorted : List Fields) → IsSortedBy (λ x y. is_lt (cmp x y)) sorted → IsStableBy (λ x y. is_lt (cmp x y)) actions sorted → sorted ≡ ordered cmp actions
  sorted_is actions sorted up stable =
      one_order less o sorted (ordered cmp actions) (rises less o sorted up) (ordered_rises actions [] start) (λ d. stable d ∙ sym (ordered_ties d actions [] start))

-- the order of actions by their names is one
pub names_ranked : (name_of : Fields → List ℕ) → IsStrictWeakOrder (λ x y. is_lt (name_cmp name_of x y))
names_ranked name_of = ranks_by (then_total (on_total name_of (lists_total nat_cmp_total)) (on_total line_text (lists_total nat_cmp_total))) (λ x. x)
