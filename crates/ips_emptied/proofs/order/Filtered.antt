-- Two lists of paths in order, of which the same pass a test, pass the same.
use Rattle.std.proofs.Common.{◌≡◌, ◌⊎◌, inl, inr, ℕ, Bool, true, false, cond, ◌&&◌, ◌||◌, ◌==◌, List, [], ◌∷◌, filter, refl, sym, ap, subst, ◌∙◌}
use Rattle.std.proofs.lemmas.Bool.{and_parts, eqb-true, false≢true, or_cases, or_left, false_from_ne_true, cases_Bool}
use Rattle.std.specs.declared.cmp.Ordering.{Ordering}
use Rattle.std.specs.declared.cmp.Ordering.TheVariants.{Less, Equal}
use Rattle.std.specs.Ordering.{nat_cmp, ordering_then}
use Rattle.std.specs.Cmp.{nat_cmp_is}
use Rattle.std.specs.Cmp.Lexicographic.{slice_cmp}
use Rattle.std.specs.List.{AllByRecursion}
use Rattle.std.specs.List.Sorted.{IsStrictlySortedBy}
use Rattle.std.proofs.lemmas.List.Kept.{IsStrictlySortedBy-filter}
use Rattle.std.specs.Cmp.Lexicographic.{lists_total}
use Rattle.std.proofs.lemmas.Cmp.{nat_cmp_total}
use Rattle.ips_text.specs.Ancestry.{same_path}
use Rattle.ips_text.proofs.Ancestry.{same_path-true, same_path-self}
use Rattle.ips_after.specs.Lists.{listed}

abbrev IsLess : List ℕ → List ℕ → Type 0
IsLess x y = slice_cmp nat_cmp x y ≡ Less

or_rest : (a b : Bool) → a ≡ false → b ≡ (a || b)
or_rest a b h = rw h refl

less_trans : (x y z : List ℕ) → slice_cmp nat_cmp x y ≡ Less → slice_cmp nat_cmp y z ≡ Less → slice_cmp nat_cmp x z ≡ Less
less_trans x y z a b = (lists_total nat_cmp_total).trans x y z a b

-- what is listed behind a path is greater
behind_less : (x q : List ℕ) (ys : List (List ℕ)) → AllByRecursion (λ y. slice_cmp nat_cmp x y ≡ Less) ys → listed ys q ≡ true → slice_cmp nat_cmp x q ≡ Less
behind_less x q [] all h = cc
behind_less x q (y ∷ ys) all h = elim (or_cases (same_path y q) (listed ys q) h) [
  | inl same ↦ subst (λ (z : List ℕ). slice_cmp nat_cmp x z ≡ Less) (same_path-true y q same) all.0
  | inr more ↦ behind_less x q ys all.1 more
]

no_more : (b l : Bool) → b ≡ false → (l && b) ≡ false
no_more b true h = h
no_more b false h = refl

-- what passes a test in a list
pub filtered : (f : List ℕ → Bool) (xs : List (List ℕ)) (q : List ℕ) → listed (filter f xs) q ≡ (listed xs q && f q)
filtered f [] q = refl
filtered f (x ∷ xs) q = go (f x) refl (same_path x q) refl (filtered f xs q)
  where
    at : same_path x q ≡ true → f q ≡ f x
    at same = ap f (sym (same_path-true x q same))

    go : (c : Bool) → f x ≡ c → (s : Bool) → same_path x q ≡ s → listed (filter f xs) q ≡ (listed xs q && f q) → listed (cond c (x ∷ filter f xs) (filter f xs)) q ≡ ((s || listed xs q) && f q)
    go true is true same e = rw same (sym (at same ∙ is))
    go true is false same e = rw same e
    go false is true same e = e ∙ no_more (f q) (listed xs q) (at same ∙ is) ∙ sym (at same ∙ is)
    go false is false same e = e

never_less : (x q : List ℕ) → same_path x q ≡ true → slice_cmp nat_cmp x q ≡ Less → ⊥
never_less [] [] same h = cc
never_less [] (a ∷ q) same h = cc
never_less (b ∷ x) [] same h = cc
never_less (b ∷ x) (a ∷ q) same h =
    let parts = and_parts (b == a) (same_path x q) same in
    let one : nat_cmp b a ≡ Equal = nat_equal b a parts.0 in
    never_less x q parts.1 (ap (λ (o : Ordering). ordering_then o (slice_cmp nat_cmp x q)) (sym one) ∙ h)
  where
    nat_equal : (b a : ℕ) → (b == a) ≡ true → nat_cmp b a ≡ Equal
    nat_equal b a e = ap (nat_cmp b) (sym (eqb-true b a e)) ∙ sym (nat_cmp_is b b Equal refl)

-- a path isn't listed behind itself
first_gone : (x : List ℕ) (xs : List (List ℕ)) → AllByRecursion (λ y. slice_cmp nat_cmp x y ≡ Less) xs → (q : List ℕ) → same_path x q ≡ true → listed xs q ≡ false
first_gone x xs all q at = false_from_ne_true _ (λ there. never_less x q at (behind_less x q xs all there))

-- two lists in order that list the same paths are one
unique : (xs ys : List (List ℕ)) → IsStrictlySortedBy (slice_cmp nat_cmp) xs → IsStrictlySortedBy (slice_cmp nat_cmp) ys → ((q : List ℕ) → listed xs q ≡ listed ys q) → xs ≡ ys
unfolding IsStrictlySortedBy
unique [] [] hx hy same = refl
unique [] (y ∷ ys) hx hy same = absurd (false≢true (same y ∙ or_left (same_path y y) (listed ys y) (same_path-self y)))
unique (x ∷ xs) [] hx hy same = absurd (false≢true (sym (same x) ∙ or_left (same_path x x) (listed xs x) (same_path-self x)))
unique (x ∷ xs) (y ∷ ys) hx hy same =
    let one = heads (or_cases (same_path y x) (listed ys x) (sym (same x) ∙ or_left (same_path x x) (listed xs x) (same_path-self x))) (or_cases (same_path x y) (listed xs y) (same y ∙ or_left (same_path y y) (listed ys y) (same_path-self y))) in
    rw (one, unique xs ys hx.1 hy.1 (tails one)) refl
  where
    heads : ((same_path y x ≡ true) ⊎ (listed ys x ≡ true)) → ((same_path x y ≡ true) ⊎ (listed xs y ≡ true)) → x ≡ y
    heads (inl at) there = sym (same_path-true y x at)
    heads (inr behind) (inl at) = same_path-true x y at
    heads (inr behind) (inr after) = absurd (never_less x x (same_path-self x) (less_trans x y x (behind_less x y xs hx.0 after) (behind_less y x ys hy.0 behind)))

    tails : x ≡ y → (q : List ℕ) → listed xs q ≡ listed ys q
    tails one q = elim (cases_Bool (same_path x q)) [
      | inl at ↦ first_gone x xs hx.0 q at ∙ sym (first_gone y ys hy.0 q (subst (λ (z : List ℕ). same_path z q ≡ true) one at))
      | inr apart ↦ or_rest (same_path x q) (listed xs q) apart ∙ same q ∙ sym (or_rest (same_path y q) (listed ys q) (subst (λ (z : List ℕ). same_path z q ≡ false) one apart))
    ]

-- of two lists in order, what passes tests is one, where the same paths do
pub same_filtered : (f g : List ℕ → Bool) (xs ys : List (List ℕ)) → IsStrictlySortedBy (slice_cmp nat_cmp) xs → IsStrictlySortedBy (slice_cmp nat_cmp) ys → ((q : List ℕ) → (listed xs q && f q) ≡ (listed ys q && g q)) → filter f xs ≡ filter g ys
same_filtered f g xs ys hx hy same =
    unique (filter f xs) (filter g ys) (IsStrictlySortedBy-filter (slice_cmp nat_cmp) f xs hx) (IsStrictlySortedBy-filter (slice_cmp nat_cmp) g ys hy) (λ q. filtered f xs q ∙ same q ∙ sym (filtered g ys q))
