-- The order in which names are found.
use Rattle.std.proofs.Common.{◌≡◌, ◌⊎◌, ◌<◌, ◌≤◌, inl, inr, List, [], ◌∷◌, ◌++◌, ℕ, suc, Bool, true, false, cond, ◌&&◌, ◌==◌, nat_lt, length, get_or, refl, sym, ◌∙◌, ap, arith}
use Rattle.std.specs.List.{AllByRecursion, filter}
use Rattle.std.specs.List.Sorted.{IsSortedBy}
use Rattle.std.specs.Ordering.{is_lt, nat_cmp, ordering_reverse, ordering_then}
use Rattle.std.specs.declared.cmp.Ordering.{Ordering}
use Rattle.std.specs.declared.cmp.Ordering.TheVariants.{Equal, Less}
use Rattle.std.specs.Cmp.{IsStrictWeakOrder, IsTotalOrder, nat_cmp_is}
use Rattle.std.specs.Cmp.Lexicographic.{slice_cmp}
use Rattle.std.proofs.lemmas.Bool.{and_from, and_parts, eq-eqb, eqb-true, false≢true, ltb-false, ltb-true, or_cases, or_left, or_right}
use Rattle.std.proofs.lemmas.Cmp.{nat_cmp_total, nat_list_cmp_total, on_total, then_total}
use Rattle.std.proofs.lemmas.List.Elements.{recursion_from_All}
use Rattle.std.proofs.lemmas.List.MinMax.{ranks_by}
use Rattle.std.proofs.lemmas.List.Sorted.{sorted_far}
use Rattle.ips_after.specs.Salvage.{depth, lesser}
use Rattle.ips_aside.specs.declared.lost.Lost.{Lost}
use Rattle.ips_aside.specs.Lost.{comes_first, finding_order}

turned_total : {K : Type 0} {R : K → K → Ordering} → IsTotalOrder R → IsTotalOrder (λ x y. R y x)
turned_total {R = R} o = record {
  antisymm = λ x y. o.antisymm y x;
  trans = λ x y z a b. o.trans z y x b a;
  congr = λ x y z e. o.antisymm z x ∙ ap ordering_reverse (sym (o.congr y x z e)) ∙ sym (o.antisymm z y);
}

order_total : IsTotalOrder finding_order
order_total = then_total (turned_total (on_total depth nat_cmp_total)) nat_list_cmp_total

pub first_ranks : IsStrictWeakOrder comes_first
first_ranks = ranks_by order_total (λ (x : Lost). x.path.now.bytes)

-- how many bytes of a path are `/`
pub depth_counted : (q : List ℕ) → length (filter (λ b. b == 47) q) ≡ depth q
depth_counted [] = refl
depth_counted (b ∷ q) = go (b == 47) (depth_counted q)
  where
    go : (c : Bool) → length (filter (λ x. x == 47) q) ≡ depth q → length (cond c (b ∷ filter (λ x. x == 47) q) (filter (λ x. x == 47) q)) ≡ cond c (suc (depth q)) (depth q)
    go true rest = ap suc rest
    go false rest = rest

-- ---- the order, as definitions state it

pub less_so : (p q : List ℕ) → lesser p q ≡ true → is_lt (slice_cmp nat_cmp p q) ≡ true
less_so [] [] h = cc
less_so [] (b ∷ q) h = refl
less_so (a ∷ p) [] h = cc
less_so (a ∷ p) (b ∷ q) h = go (less_so p q) (or_cases (nat_lt a b) ((a == b) && lesser p q) h)
  where
    go : (lesser p q ≡ true → is_lt (slice_cmp nat_cmp p q) ≡ true) → (nat_lt a b ≡ true) ⊎ (((a == b) && lesser p q) ≡ true) → is_lt (slice_cmp nat_cmp (a ∷ p) (b ∷ q)) ≡ true
    go rec (inl less) = ap (λ (o : Ordering). is_lt (ordering_then o (slice_cmp nat_cmp p q))) (sym (nat_cmp_is a b Less (ltb-true a b less)))
    go rec (inr rest) =
        let parts = and_parts (a == b) (lesser p q) rest in
        ap (λ (o : Ordering). is_lt (ordering_then o (slice_cmp nat_cmp p q))) (sym (nat_cmp_is a b Equal (eqb-true a b parts.0))) ∙ rec parts.1

-- of two paths one is less, or they are the same
pub less_or : (p q : List ℕ) → (lesser p q ≡ true) ⊎ ((lesser q p ≡ true) ⊎ (p ≡ q))
less_or [] [] = inr (inr refl)
less_or [] (b ∷ q) = inl refl
less_or (a ∷ p) [] = inr (inl refl)
less_or (a ∷ p) (b ∷ q) = go (nat_lt a b) refl (nat_lt b a) refl (less_or p q)
  where
    go : (x : Bool) → nat_lt a b ≡ x → (y : Bool) → nat_lt b a ≡ y → (lesser p q ≡ true) ⊎ ((lesser q p ≡ true) ⊎ (p ≡ q))
        → (lesser (a ∷ p) (b ∷ q) ≡ true) ⊎ ((lesser (b ∷ q) (a ∷ p) ≡ true) ⊎ (a ∷ p ≡ b ∷ q))
    go true l y m rest = inl (or_left _ _ l)
    go false l true m rest = inr (inl (or_left _ _ m))
    go false l false m rest = let one = ltb-false a b l in let two = ltb-false b a m in let same : a ≡ b = omega (arith, one, two) in heads same rest
      where
        heads : a ≡ b → (lesser p q ≡ true) ⊎ ((lesser q p ≡ true) ⊎ (p ≡ q)) → (lesser (a ∷ p) (b ∷ q) ≡ true) ⊎ ((lesser (b ∷ q) (a ∷ p) ≡ true) ⊎ (a ∷ p ≡ b ∷ q))
        heads same (inl r) = inl (or_right (nat_lt a b) _ (and_from _ _ (eq-eqb a b same) r))
        heads same (inr (inl r)) = inr (inl (or_right (nat_lt b a) _ (and_from _ _ (eq-eqb b a (sym same)) r)))
        heads same (inr (inr e)) = inr (inr (ap (λ (x : ℕ). x ∷ p) same ∙ ap (λ (l : List ℕ). b ∷ l) e))

-- a name is found first whose path is deeper
pub deeper_first : (x p : List ℕ) → depth p < depth x → is_lt (finding_order x p) ≡ true
deeper_first x p deep = ap (λ (o : Ordering). is_lt (ordering_then o (slice_cmp nat_cmp x p))) (sym (nat_cmp_is (depth p) (depth x) Less deep))

-- or as deep, and less
pub lesser_first : (x p : List ℕ) → depth x ≡ depth p → lesser x p ≡ true → is_lt (finding_order x p) ≡ true
lesser_first x p same less = ap (λ (o : Ordering). is_lt (ordering_then o (slice_cmp nat_cmp x p))) (sym (nat_cmp_is (depth p) (depth x) Equal (sym same))) ∙ less_so x p less

-- of two paths that are as deep, the name of that one is found first which is less, or they are the same
pub first_lesser : (x p : List ℕ) → depth x ≡ depth p → is_lt (finding_order p x) ≡ false → (lesser x p ≡ true) ⊎ (x ≡ p)
first_lesser x p same none = go (less_or x p)
  where
    go : (lesser x p ≡ true) ⊎ ((lesser p x ≡ true) ⊎ (x ≡ p)) → (lesser x p ≡ true) ⊎ (x ≡ p)
    go (inl less) = inl less
    go (inr (inl more)) = absurd (false≢true (sym none ∙ lesser_first p x (sym same) more))
    go (inr (inr e)) = inr e

-- ---- what stands before and behind one of a sorted list

abbrev Far : List Lost → Type 0
Far xs = (i j : ℕ) (d : Lost) → i ≤ j → j < length xs → comes_first (get_or xs j d) (get_or xs i d) ≡ false

far_head : (x : Lost) (xs : List Lost) → Far (x ∷ xs) → AllByRecursion (λ y. comes_first y x ≡ false) xs
far_head x xs far = recursion_from_All (λ y. comes_first y x ≡ false) xs (λ k d lt. far 0 (suc k) d (omega arith) (omega (arith, lt)))

far_tail : (x : Lost) (xs : List Lost) → Far (x ∷ xs) → Far xs
far_tail x xs far = λ i j d a b. far (suc i) (suc j) d (omega (arith, a)) (omega (arith, b))

pub at_middle : {A : Type 0} (P : A → Type 0) (front : List A) (one : A) (back : List A) → AllByRecursion P (front ++ one ∷ back) → P one
at_middle P [] one back all = all.0
at_middle P (x ∷ front) one back all = at_middle P front one back all.1

far_halves : (front : List Lost) (one : Lost) (back : List Lost) → Far (front ++ one ∷ back) → AllByRecursion (λ y. comes_first one y ≡ false) front × AllByRecursion (λ y. comes_first y one ≡ false) back
far_halves [] one back far = (tt, far_head one back far)
far_halves (x ∷ front) one back far =
    let rest = far_halves front one back (far_tail x (front ++ one ∷ back) far) in
    ((at_middle (λ y. comes_first y x ≡ false) front one back (far_head x (front ++ one ∷ back) far), rest.0), rest.1)

pub sorted_halves : (front : List Lost) (one : Lost) (back : List Lost) → IsSortedBy comes_first (front ++ one ∷ back)
    → AllByRecursion (λ y. comes_first one y ≡ false) front × AllByRecursion (λ y. comes_first y one ≡ false) back
sorted_halves front one back sorted = far_halves front one back (sorted_far comes_first first_ranks (front ++ one ∷ back) sorted)
