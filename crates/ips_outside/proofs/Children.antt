-- The children of a directory, one after the other.
use Rattle.std.proofs.Common.{◌≡◌, ◌⊎◌, inl, inr, ⊎_elim, ℕ, zero, suc, ◌<◌, ◌≤◌, Bool, true, false, cond, not, ◌&&◌, ◌||◌, ◌==◌, List, [], ◌∷◌, ◌++◌, length, Vec, Global, Option, Some, None, is_some, refl, sym, ◌∙◌, ap, subst, arith}
use Rattle.std.specs.List.{list_any, AllByRecursion}
use Rattle.std.specs.List.Sorted.{IsStrictlySortedBy}
use Rattle.std.proofs.lemmas.Bool.{and_parts, and_from, eqb-true, eq-eqb, false_from_ne_true}
use Rattle.std.proofs.lemmas.List.Folds.{list_any-append}
use Rattle.std.specs.Ordering.{nat_cmp, is_gt, ordering_then, ordering_reverse}
use Rattle.std.specs.Cmp.Lexicographic.{slice_cmp}
use Rattle.std.specs.declared.cmp.Ordering.{Ordering}
use Rattle.std.specs.declared.cmp.Ordering.TheVariants.{Less, Equal, Greater}
use Rattle.std.proofs.lemmas.Cmp.{nat_list_cmp_total, nat_cmp_total, alike_right, by_ranked, ranked}
use Rattle.std.specs.Cmp.{nat_cmp_is}
use Rattle.ips_outside.proofs.Maps.{one_path}
use Rattle.ips_outside.proofs.Rooms.{stands}
use Rattle.ips_text.specs.Ancestry.{same_path, covers, is_below, parent, behind}
use Rattle.ips_text.proofs.Ancestry.{same_path-true, same_path-self, covers_short, parent_length, covers-parent, at_parent_of, parent_covers}
use Rattle.ips_outside.specs.Image.{IsImage}
use Rattle.ips_outside.specs.Table.{kind_at, image_of}
use Rattle.ips_outside.specs.Order.{comes_after, front_below, IsNextBelow, IsNoneBelow}
use Rattle.ips_outside.specs.Children.{is_directory, has_child, HasChildren, AreChildren, path_bytes}
use Rattle.ips_text.specs.Kept.{Kept}
use Rattle.ips_outside.specs.declared.table.Kind.{Kind}
use Rattle.ips_outside.specs.declared.table.Node.{Node}
use Rattle.ips_outside.proofs.Order.{after_itself, after_trans, same_head, then_after, front_after, below_from}

-- ---- the order of bytes

reversed : (o r : Ordering) → o ≡ ordering_reverse r → is_gt o ≡ false → is_gt r ≡ false → o ≡ Equal
reversed Less Less is g h = cc
reversed Less Equal is g h = cc
reversed Less Greater is g h = cc
reversed Equal r is g h = refl
reversed Greater r is g h = cc

-- neither behind the other: one path
tied : (p q : List ℕ) → comes_after p q ≡ false → comes_after q p ≡ false → same_path p q ≡ true
tied p q a b =
    let one : q ≡ p = one_path p q (reversed (slice_cmp nat_cmp p q) (slice_cmp nat_cmp q p) (nat_list_cmp_total.antisymm p q) a b) in
    ap (same_path p) one ∙ same_path-self p

gt_not_back : (o r : Ordering) → o ≡ ordering_reverse r → is_gt o ≡ true → is_gt r ≡ false
gt_not_back Less r is h = cc
gt_not_back Equal r is h = cc
gt_not_back Greater Less is h = refl
gt_not_back Greater Equal is h = cc
gt_not_back Greater Greater is h = cc

-- what stands before isn't behind
before : (p q : List ℕ) → comes_after p q ≡ true → comes_after q p ≡ false
before p q a = gt_not_back (slice_cmp nat_cmp p q) (slice_cmp nat_cmp q p) (nat_list_cmp_total.antisymm p q) a

-- what is before is before all that comes later
pub before_later : (p q r : List ℕ) → comes_after p r ≡ true → comes_after p q ≡ false → comes_after q r ≡ true
before_later p q r a b = go (comes_after q r) refl
  where
    go : (c : Bool) → comes_after q r ≡ c → c ≡ true
    go true is = refl
    go false is = let bad = after_trans p q r b is in cc

less : (o : Ordering) → is_gt o ≡ true → o ≡ Greater
less Less h = cc
less Equal h = cc
less Greater h = refl

le_cases : (o : Ordering) → is_gt o ≡ false → (o ≡ Less) ⊎ (o ≡ Equal)
le_cases Less h = inl refl
le_cases Equal h = inr refl
le_cases Greater h = cc

-- in the words of the order
pub before_is_less : (from q next : List ℕ) → comes_after from q ≡ true → comes_after from next ≡ false → slice_cmp nat_cmp q next ≡ Less
before_is_less from q next a b =
    let first : slice_cmp nat_cmp q from ≡ Less = nat_list_cmp_total.antisymm q from ∙ ap ordering_reverse (less (slice_cmp nat_cmp from q) a) in
    ⊎_elim (λ lt. nat_list_cmp_total.trans q from next first lt) (λ eq. sym (alike_right nat_list_cmp_total from next q eq) ∙ first) (le_cases (slice_cmp nat_cmp from next) b)

flip_then : (a b : ℕ) (x y : Ordering) → is_gt x ≡ not (is_gt y) → is_gt (ordering_then (nat_cmp a b) x) ≡ not (is_gt (ordering_then (nat_cmp b a) y))
flip_then a b x y h = go (nat_cmp a b) (nat_cmp b a) (nat_cmp_total.antisymm a b)
  where
    go : (o r : Ordering) → o ≡ ordering_reverse r → is_gt (ordering_then o x) ≡ not (is_gt (ordering_then r y))
    go Less Less is = cc
    go Less Equal is = cc
    go Less Greater is = refl
    go Equal Less is = cc
    go Equal Equal is = h
    go Equal Greater is = cc
    go Greater Less is = refl
    go Greater Equal is = cc
    go Greater Greater is = cc

-- what stands before a path with a byte 0 behind it is that path or stands before it
pub after_zero : (p q : List ℕ) → comes_after (p ++ 0 ∷ []) q ≡ not (comes_after q p)
after_zero [] [] = refl
after_zero [] (c ∷ q) = least c q
  where
    least : (c : ℕ) (q : List ℕ) → comes_after (0 ∷ []) (c ∷ q) ≡ false
    least zero [] = refl
    least zero (d ∷ q) = refl
    least (suc c) q = ap (λ (o : Ordering). is_gt (ordering_then o (slice_cmp nat_cmp [] q))) (sym (nat_cmp_is 0 (suc c) Less (omega arith)))
after_zero (a ∷ p) [] = refl
after_zero (a ∷ p) (c ∷ q) = flip_then a c (slice_cmp nat_cmp (p ++ 0 ∷ []) q) (slice_cmp nat_cmp q p) (after_zero p q)

-- all that is below a path stands before the path with the byte behind `/`
pub past_below : (p q : List ℕ) → covers p q ≡ true → same_path p q ≡ false → comes_after (p ++ 48 ∷ []) q ≡ true
past_below [] [] c s = cc
past_below [] (b ∷ q) c s = subst (λ (x : ℕ). comes_after (48 ∷ []) (x ∷ q) ≡ true) (sym (eqb-true b 47 c)) refl
past_below (a ∷ p) [] c s = cc
past_below (a ∷ p) (b ∷ q) c s =
    let parts = and_parts (a == b) (covers p q) c in
    let apart : same_path p q ≡ false = ap (λ (x : Bool). x && same_path p q) (sym parts.0) ∙ s in
    subst (λ (x : ℕ). comes_after (a ∷ (p ++ 48 ∷ [])) (x ∷ q) ≡ true) (eqb-true a b parts.0) (same_head a (p ++ 48 ∷ []) q ∙ past_below p q parts.1 apart)

after_then : (a b : ℕ) (o : Ordering) → is_gt (ordering_then (nat_cmp a b) o) ≡ true → (b < a) ⊎ ((a ≡ b) × (is_gt o ≡ true))
after_then a b o h = by_ranked (a < b) (a ≡ b) (b < a) (nat_cmp a b) (ranked a b (nat_cmp a b) refl) (λ is lt. let bad : is_gt (ordering_then Less o) ≡ true = ap (λ (r : Ordering). is_gt (ordering_then r o)) (sym is) ∙ h in cc)
    (λ is eq. inr (eq, ap (λ (r : Ordering). is_gt (ordering_then r o)) (sym is) ∙ h)) (λ is gt. inl gt)

-- and what stands between is below it
between_past : (p q : List ℕ) → comes_after (front_below p) q ≡ false → comes_after (p ++ 48 ∷ []) q ≡ true → covers p q ≡ true
between_past [] [] f l = cc
between_past [] (x ∷ q) f l =
    let up = then_after 47 x _ f in
    let down = after_then 48 x _ l in
    eq-eqb x 47 (⊎_elim (λ lt. ⊎_elim (λ lt'. absurd (omega arith)) (λ eq'. absurd (never q eq'.1)) down) (λ eq. sym eq.0) up)
  where
    never : (q : List ℕ) → comes_after [] q ≡ true → ⊥
    never [] h = cc
    never (c ∷ q) h = cc
between_past (a ∷ p) [] f l = cc
between_past (a ∷ p) (x ∷ q) f l =
    let up = then_after a x _ f in
    let down = after_then a x _ l in
    ⊎_elim (λ lt. absurd (⊎_elim (λ lt'. omega arith) (λ eq'. omega (arith, eq'.0)) down))
    (λ eq. ⊎_elim (λ lt'. absurd (omega (arith, eq.0))) (λ eq'. and_from (a == x) (covers p q) (eq-eqb a x eq.0) (between_past p q eq.1 eq'.1)) down) up

-- ---- children

-- a child stands below its directory
pub child_below : (dir q : List ℕ) → parent q ≡ Some dir → is_below dir q ≡ true
child_below dir q is = and_from (covers dir q) (not (same_path dir q)) (parent_covers q dir is) (ap not (false_from_ne_true (same_path dir q) (λ same. let one = same_path-true dir q same in absurd (omega (arith, parent_length q dir is, ap length one)))))

directory_is : (dir : List ℕ) (o : Option (List ℕ)) → is_directory dir o ≡ true → o ≡ Some dir
directory_is dir (Some above) h = ap (λ (x : List ℕ). Some x) (sym (same_path-true dir above h))
directory_is dir None h = cc

is_directory_at : (dir : List ℕ) (o : Option (List ℕ)) → o ≡ Some dir → is_directory dir o ≡ true
is_directory_at dir o is = ap (is_directory dir) is ∙ same_path-self dir

-- ---- the child above a path

module _ (dir child above : List ℕ) (below : is_below dir child ≡ true) where
  up : (covers dir child ≡ true) × (same_path dir child ≡ false)
  up = let parts = and_parts (covers dir child) (not (same_path dir child)) below in (parts.0, let other = parts.1 in false_from_ne_true (same_path dir child) (λ same. absurd (cc)))

  dir_covers : parent child ≡ Some above → covers dir above ≡ true
  dir_covers is =
      let at = at_parent_of dir child up.0 up.1 in
      let one : at.dir ≡ above = let both : Some at.dir ≡ Some above = sym at.is ∙ is in cc in
      subst (λ (x : List ℕ). covers dir x ≡ true) one at.up

  -- a longer one is below the directory too
  pub longer_below : parent child ≡ Some above → length dir < length above → is_below dir above ≡ true
  longer_below is longer = and_from (covers dir above) (not (same_path dir above)) (dir_covers is) (ap not (false_from_ne_true (same_path dir above) (λ same. let one = same_path-true dir above same in absurd (omega (arith, ap length one)))))

  -- and another is the directory
  pub short_is : parent child ≡ Some above → length above ≤ length dir → parent child ≡ Some dir
  short_is is short = is ∙ ap (λ (x : List ℕ). Some x) (sym (same_path-true dir above (covers_short dir above (dir_covers is) short)))

  pub has_above : parent child ≡ None → ⊥
  has_above none = let at = at_parent_of dir child up.0 up.1 in let bad : None ≡ Some at.dir = sym none ∙ at.is in absurd (cc)

-- ---- one more child

child_at : (table : List (Vec ℕ Global × Kind)) (dir q : List ℕ) → has_child table dir q ≡ true → (is_some (kind_at table q) ≡ true) × (parent q ≡ Some dir)
child_at table dir q h = let parts = and_parts (is_some (kind_at table q)) (is_directory dir (parent q)) h in (parts.0, directory_is dir (parent q) parts.1)

no_more : (h a : Bool) → (h ≡ true → a ≡ false) → false ≡ (h && a)
no_more true a f = sym (f refl)
no_more false a f = refl

all_of : (h a l : Bool) → l ≡ (h && a) → (h ≡ true → a ≡ true) → l ≡ h
all_of true a l is f = is ∙ f refl
all_of false a l is f = is

one_more : (h a b s : Bool) → (s ≡ true → (h ≡ true) × (b ≡ true)) → (s ≡ false → h ≡ true → a ≡ b) → ((h && a) || (s || false)) ≡ (h && b)
one_more true true b true f g = sym (f refl).1
one_more true false b true f g = sym (f refl).1
one_more true true b false f g = g refl refl
one_more true false b false f g = g refl refl
one_more false a b true f g = absurd (let bad = (f refl).0 in cc)
one_more false a b false f g = refl

same_more : (h a b : Bool) → (h ≡ true → a ≡ b) → (h && a) ≡ (h && b)
same_more true a b f = f refl
same_more false a b f = refl

module _ (table : List (Vec ℕ Global × Kind)) (dir : List ℕ) where
  -- before the first
  pub none_found_yet : (q : List ℕ) → false ≡ (has_child table dir q && comes_after (front_below dir) q)
  none_found_yet q = no_more (has_child table dir q) (comes_after (front_below dir) q) (λ h. below_from dir q (child_below dir q (child_at table dir q h).1))

  -- behind the last
  pub all_found : (from : List ℕ) (found : List (List ℕ)) → IsNoneBelow table dir from → ((q : List ℕ) → list_any (λ p. same_path p q) found ≡ (has_child table dir q && comes_after from q))
      → (q : List ℕ) → list_any (λ p. same_path p q) found ≡ has_child table dir q
  all_found from found none each q = all_of (has_child table dir q) (comes_after from q) (list_any (λ p. same_path p q) found) (each q) (λ h. go (child_at table dir q h) (comes_after from q) refl)
    where
      go : (is_some (kind_at table q) ≡ true) × (parent q ≡ Some dir) → (c : Bool) → comes_after from q ≡ c → c ≡ true
      go at true is = refl
      go at false is = let some = at.0 in let gone = none q (child_below dir q at.1) is in cc

  module _ (from next : List ℕ) (is : IsNextBelow table dir from next) where
    pub child_found : (found : List (List ℕ)) → parent next ≡ Some dir → ((q : List ℕ) → list_any (λ p. same_path p q) found ≡ (has_child table dir q && comes_after from q))
        → (q : List ℕ) → list_any (λ p. same_path p q) (found ++ next ∷ []) ≡ (has_child table dir q && comes_after (next ++ 0 ∷ []) q)
    child_found found up each q = list_any-append (λ (p : List ℕ). same_path p q) found (next ∷ []) ∙ ap (λ (b : Bool). b || (same_path next q || false)) (each q)
        ∙ one_more (has_child table dir q) (comes_after from q) (comes_after (next ++ 0 ∷ []) q) (same_path next q) here other
      where
        here : same_path next q ≡ true → (has_child table dir q ≡ true) × (comes_after (next ++ 0 ∷ []) q ≡ true)
        here s =
            let one : next ≡ q = same_path-true next q s in (
              subst (λ (x : List ℕ). has_child table dir x ≡ true) one (and_from (is_some (kind_at table next)) (is_directory dir (parent next)) is.first.stands (is_directory_at dir (parent next) up)),
              subst (λ (x : List ℕ). comes_after (next ++ 0 ∷ []) x ≡ true) one (after_zero next next ∙ ap not (after_itself next)),
            )

        go : same_path next q ≡ false → has_child table dir q ≡ true → (a : Bool) → comes_after from q ≡ a → (b : Bool) → comes_after q next ≡ b → a ≡ not b
        go s h true early b at = let back = before next q (before_later from next q early is.first.late) in ap not (sym back ∙ at)
        go s h false late true at = refl
        go s h false late false at = let same = tied next q (is.first.least q (child_at table dir q h).0 late) at in absurd (cc)

        other : same_path next q ≡ false → has_child table dir q ≡ true → comes_after from q ≡ comes_after (next ++ 0 ∷ []) q
        other s h = go s h (comes_after from q) refl (comes_after q next) refl ∙ sym (after_zero next q)

    module _ (child : List ℕ) (above : covers child next ≡ true) (up : parent child ≡ Some dir) (apart : same_path child next ≡ false) where
      past : comes_after (child ++ 48 ∷ []) next ≡ true
      past = past_below child next above apart

      under : is_below child next ≡ true
      under = and_from (covers child next) (not (same_path child next)) above (ap not apart)

      -- what is below a child is no child
      not_below : (q : List ℕ) → has_child table dir q ≡ true → comes_after from q ≡ false → comes_after (child ++ 48 ∷ []) q ≡ true → ⊥
      not_below q h late early =
          let at = child_at table dir q h in
          let front : comes_after (front_below child) q ≡ false = after_trans (front_below child) next q (below_from child next under) (is.first.least q at.0 late) in
          let inside : covers child q ≡ true = between_past child q front early in
          let other : same_path child q ≡ false = false_from_ne_true (same_path child q) (λ same.
          let one : child ≡ q = same_path-true child q same in
          let bad : comes_after (front_below child) child ≡ false = subst (λ (x : List ℕ). comes_after (front_below child) x ≡ false) (sym one) front in
          let good = front_after child in
          absurd (cc)) in
          let over = at_parent_of child q inside other in
          let one : over.dir ≡ dir = let both : Some over.dir ≡ Some dir = sym over.is ∙ at.1 in cc in
          let covered : covers child dir ≡ true = subst (λ (x : List ℕ). covers child x ≡ true) one over.up in
          let never = covers-parent child dir up in
          absurd (cc)

      pub child_passed : (q : List ℕ) → (has_child table dir q && comes_after from q) ≡ (has_child table dir q && comes_after (child ++ 48 ∷ []) q)
      child_passed q = same_more (has_child table dir q) (comes_after from q) (comes_after (child ++ 48 ∷ []) q) (λ h. go h (comes_after from q) refl (comes_after (child ++ 48 ∷ []) q) refl)
        where
          go : has_child table dir q ≡ true → (a : Bool) → comes_after from q ≡ a → (b : Bool) → comes_after (child ++ 48 ∷ []) q ≡ b → a ≡ b
          go h true early b at = sym (before_later next (child ++ 48 ∷ []) q (before_later from next q early is.first.late) (before (child ++ 48 ∷ []) next past)) ∙ at
          go h false late true at = absurd (not_below q h late at)
          go h false late false at = refl

-- ---- the order of what was found

pub sorted_none : IsStrictlySortedBy {K = List ℕ} (slice_cmp nat_cmp) []
unfolding IsStrictlySortedBy
sorted_none = tt

sorted_more : (xs : List (List ℕ)) (y : List ℕ) → IsStrictlySortedBy (slice_cmp nat_cmp) xs → ((x : List ℕ) → list_any (λ p. same_path p x) xs ≡ true → slice_cmp nat_cmp x y ≡ Less) → IsStrictlySortedBy (slice_cmp nat_cmp) (xs ++ y ∷ [])
unfolding IsStrictlySortedBy
sorted_more [] y sorted first = (tt, tt)
sorted_more (x ∷ xs) y sorted first =
    (all_less xs sorted.0, sorted_more xs y sorted.1 (λ z among. first z (or_right_true (same_path x z) among)))
  where
    or_right_true : (a : Bool) {b : Bool} → b ≡ true → (a || b) ≡ true
    or_right_true true h = refl
    or_right_true false h = h

    all_less : (zs : List (List ℕ)) → AllByRecursion (λ z. slice_cmp nat_cmp x z ≡ Less) zs → AllByRecursion (λ z. slice_cmp nat_cmp x z ≡ Less) (zs ++ y ∷ [])
    all_less [] all = (first x (ap (λ (b : Bool). b || list_any (λ p. same_path p x) xs) (same_path-self x)), tt)
    all_less (z ∷ zs) all = (all.0, all_less zs all.1)

pub order_more : (table : List (Vec ℕ Global × Kind)) (dir from next : List ℕ) (found : List (List ℕ)) → IsNextBelow table dir from next → ((q : List ℕ) → list_any (λ p. same_path p q) found ≡ (has_child table dir q && comes_after from q))
    → IsStrictlySortedBy (slice_cmp nat_cmp) found → IsStrictlySortedBy (slice_cmp nat_cmp) (found ++ next ∷ [])
order_more table dir from next found is each sorted = sorted_more found next sorted (λ x among. before_is_less from x next (and_parts (has_child table dir x) (comes_after from x) (sym (each x) ∙ among)).1 is.first.late)

pub zero_past : (next : List ℕ) → comes_after (next ++ 0 ∷ []) next ≡ true
zero_past next = after_zero next next ∙ ap not (after_itself next)

-- ---- how many are left

-- how many paths of the table don't stand before these bytes
abbrev pub later : List (Vec ℕ Global × Kind) → List ℕ → ℕ
later [] from = 0
later (e ∷ table) from = cond (comes_after from e.0.items) (later table from) (suc (later table from))

later_less : (from to : List ℕ) → ((q : List ℕ) → comes_after from q ≡ true → comes_after to q ≡ true) → (table : List (Vec ℕ Global × Kind)) → later table to ≤ later table from
later_less from to more [] = omega arith
later_less from to more (e ∷ table) = go (comes_after from e.0.items) (comes_after to e.0.items) (more e.0.items) (later_less from to more table)
  where
    go : (a b : Bool) → (a ≡ true → b ≡ true) → later table to ≤ later table from → cond b (later table to) (suc (later table to)) ≤ cond a (later table from) (suc (later table from))
    go true true f le = le
    go true false f le = absurd (let bad = f refl in cc)
    go false true f le = omega (arith, le)
    go false false f le = omega (arith, le)

later_fewer : (from to next : List ℕ) → ((q : List ℕ) → comes_after from q ≡ true → comes_after to q ≡ true) → comes_after from next ≡ false → comes_after to next ≡ true → (table : List (Vec ℕ Global × Kind)) → is_some (kind_at table next) ≡ true → later table to < later table from
later_fewer from to next more late early [] some = cc
later_fewer from to next more late early (e ∷ table) some = go (same_path e.0.items next) refl (comes_after from e.0.items) refl (comes_after to e.0.items) refl some (later_less from to more table) (later_fewer from to next more late early table)
  where
    go : (s : Bool) → same_path e.0.items next ≡ s → (a : Bool) → comes_after from e.0.items ≡ a → (b : Bool) → comes_after to e.0.items ≡ b → is_some (cond s (Some e.1) (kind_at table next)) ≡ true → later table to ≤ later table from
        → (is_some (kind_at table next) ≡ true → later table to < later table from) → cond b (later table to) (suc (later table to)) < cond a (later table from) (suc (later table from))
    go true s a ea b eb some le rest =
        let one : e.0.items ≡ next = same_path-true e.0.items next s in
        let first : a ≡ false = sym ea ∙ ap (comes_after from) one ∙ late in
        let second : b ≡ true = sym eb ∙ ap (comes_after to) one ∙ early in
        rw (first, second) (omega (arith, le))
    go false s true ea true eb some le rest = rest some
    go false s true ea false eb some le rest = absurd (let bad = more e.0.items ea in cc)
    go false s false ea true eb some le rest = omega (arith, le)
    go false s false ea false eb some le rest = omega (arith, rest some)

-- fewer are left behind a path that comes later
pub fewer_left : (table : List (Vec ℕ Global × Kind)) (dir from next to : List ℕ) → IsNextBelow table dir from next → comes_after to next ≡ true → later table to < later table from
fewer_left table dir from next to is past = later_fewer from to next
    (λ q early. before_later next to q (before_later from next q early is.first.late) (before to next past)) is.first.late past table is.first.stands

-- and what is behind the front is still behind it
pub still_begun : (table : List (Vec ℕ Global × Kind)) (dir from next to : List ℕ) → IsNextBelow table dir from next → comes_after (front_below dir) from ≡ false → comes_after to next ≡ true → comes_after (front_below dir) to ≡ false
still_begun table dir from next to is begun past = after_trans (front_below dir) next to (after_trans (front_below dir) from next begun is.first.late) (before to next past)

-- ---- in the tree

pub children_of : (table : List (Vec ℕ Global × Kind)) (nodes : List Node) (dir : List ℕ) (paths : List (List ℕ)) → IsImage (image_of table nodes) → HasChildren table dir paths → AreChildren (image_of table nodes) dir paths
children_of table nodes dir paths formed has = record {
  each = λ q. has.each q ∙ ap (λ (b : Bool). b && is_directory dir (parent q)) (sym (stands table nodes q formed));
  order = has.order;
}

pub bytes_more : (paths : List Kept) (more : Kept) (next : List ℕ) → more.bytes ≡ next → path_bytes (paths ++ more ∷ []) ≡ path_bytes paths ++ next ∷ []
bytes_more [] more next is = ap (λ (x : List ℕ). x ∷ []) is
bytes_more (p ∷ paths) more next is = ap (λ (xs : List (List ℕ)). p.bytes ∷ xs) (bytes_more paths more next is)

-- ---- turns of the loop

-- what is known between two turns
pub record IsGoing (table : List (Vec ℕ Global × Kind)) (dir from : List ℕ) (found : List (List ℕ)) : Type 0 where
  pub each : (q : List ℕ) → list_any (λ p. same_path p q) found ≡ (has_child table dir q && comes_after from q)
  pub order : IsStrictlySortedBy (slice_cmp nat_cmp) found
  pub begun : comes_after (front_below dir) from ≡ false

pub going_first : (table : List (Vec ℕ Global × Kind)) (dir : List ℕ) → IsGoing table dir (front_below dir) []
going_first table dir = record { each = none_found_yet table dir; order = sorted_none; begun = after_itself (front_below dir) }

pub going_found : (table : List (Vec ℕ Global × Kind)) (dir from next : List ℕ) (found : List (List ℕ)) → IsNextBelow table dir from next → parent next ≡ Some dir → IsGoing table dir from found → IsGoing table dir (next ++ 0 ∷ []) (found ++ next ∷ [])
going_found table dir from next found is up going = record {
  each = child_found table dir from next is found up going.each;
  order = order_more table dir from next found is going.each going.order;
  begun = still_begun table dir from next (next ++ 0 ∷ []) is going.begun (zero_past next);
}

pub going_past : (table : List (Vec ℕ Global × Kind)) (dir from next child : List ℕ) (found : List (List ℕ)) → IsNextBelow table dir from next → covers child next ≡ true → parent child ≡ Some dir → same_path child next ≡ false → IsGoing table dir from found → IsGoing table dir (child ++ 48 ∷ []) found
going_past table dir from next child found is above up apart going = record {
  each = λ q. going.each q ∙ child_passed table dir from next is child above up apart q;
  order = going.order;
  begun = still_begun table dir from next (child ++ 48 ∷ []) is going.begun (past_below child next above apart);
}

pub going_last : (table : List (Vec ℕ Global × Kind)) (dir from : List ℕ) (found : List (List ℕ)) → IsNoneBelow table dir from → IsGoing table dir from found → HasChildren table dir found
going_last table dir from found none going = record { each = all_found table dir from found none going.each; order = going.order }

-- another path is no longer than the one above it
pub apart_from : (child next : List ℕ) → (length child ≡ length next → ⊥) → same_path child next ≡ false
apart_from child next long = false_from_ne_true (same_path child next) (λ same. long (ap length (same_path-true child next same)))
