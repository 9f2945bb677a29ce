-- What a binary search for a stem finds among packages whose stems ascend.
use Rattle.std.proofs.Common.{◌≡◌, ℕ, zero, suc, ◌+◌, ◌<◌, false, List, [], ◌∷◌, length, get_or, map, Result, Ok, Err, IfOk, OnErr, Ordering, Less, Equal, refl, sym, ap, ◌∙◌, arith, inl, inr}
use Rattle.std.specs.List.{AllByRecursion}
use Rattle.std.specs.List.Sorted.{IsSearchInRange, IsBinarySearchResult, IsSortedBy}
use Rattle.std.specs.Ordering.{nat_cmp, is_eq, is_lt, ordering_reverse}
use Rattle.std.specs.Cmp.Lexicographic.{slice_cmp}
use Rattle.std.proofs.lemmas.Cmp.{nat_list_cmp_total, alike_right}
use Rattle.std.proofs.lemmas.Map.Keys.{sorted_head, sorted_tail}
use Rattle.std.proofs.lemmas.List.Sorted.{searchable_from_sorted}
use Rattle.std.proofs.lemmas.Bool.{cases_lt}
use Rattle.ips_catalog.specs.declared.packages.Listing.{Listing}
use Rattle.ips_catalog.specs.Listed.{Listed, StemsAscend, versions_of}
use Rattle.ips_catalog.specs.Seen.{seen}

abbrev stem_cmp : List ℕ → List ℕ → Ordering
stem_cmp = slice_cmp nat_cmp

-- the first stem is below each later one
below : (first : List ℕ) (ls : List Listing) → AllByRecursion (λ y. stem_cmp first y ≡ Less) (map (λ listed. listed.stem) (map seen ls)) → (i : ℕ) (d : Listing) → i < length ls → stem_cmp first (get_or ls i d).stem ≡ Less
below first [] all i d within = absurd (omega arith)
below first (l ∷ ls) all zero d within = all.0
below first (l ∷ ls) all (suc i) d within = below first ls all.1 i d (omega arith)

rising : (ls : List Listing) → StemsAscend (map seen ls) → (i j : ℕ) (d : Listing) → i < j → j < length ls → stem_cmp (get_or ls i d).stem (get_or ls j d).stem ≡ Less
rising [] up i j d lower within = absurd (omega arith)
rising (l ∷ ls) up i zero d lower within = absurd (omega arith)
rising (l ∷ ls) up zero (suc j) d lower within = below l.stem ls (sorted_head stem_cmp l.stem (map (λ listed. listed.stem) (map seen ls)) up) j d (omega arith)
rising (l ∷ ls) up (suc i) (suc j) d lower within = rising ls (sorted_tail stem_cmp l.stem (map (λ listed. listed.stem) (map seen ls)) up) i j d (omega arith) (omega arith)

not_lt : (x y : List ℕ) → stem_cmp x y ≡ Less → is_lt (stem_cmp y x) ≡ false
not_lt x y less = ap is_lt (nat_list_cmp_total.antisymm y x ∙ ap ordering_reverse less)

ascend : (ls : List Listing) → StemsAscend (map seen ls) → IsSortedBy (λ (a b : Listing). is_lt (stem_cmp a.stem b.stem)) ls
ascend ls up k d low within = not_lt (get_or ls k d).stem (get_or ls (k + 1) d).stem (rising ls up k (k + 1) d (omega arith) within)

-- the versions at the place of the stem
found_at : (ls : List Listing) (stem : List ℕ) → StemsAscend (map seen ls) → (i : ℕ) → i < length ls → ((d : Listing) → stem_cmp (get_or ls i d).stem stem ≡ Equal) → (d : Listed) → (get_or (map seen ls) i d).versions ≡ versions_of (map seen ls) stem
found_at [] stem up i within is d = absurd (omega arith)
found_at (l ∷ ls) stem up zero within is d = rw (is l) refl
found_at (l ∷ ls) stem up (suc i) within is d =
    let less : stem_cmp l.stem stem ≡ Less = sym (alike_right nat_list_cmp_total (get_or ls i l).stem stem l.stem (is l)) ∙ below l.stem ls (sorted_head stem_cmp l.stem (map (λ listed. listed.stem) (map seen ls)) up) i l (omega arith) in
    rw less (found_at ls stem (sorted_tail stem_cmp l.stem (map (λ listed. listed.stem) (map seen ls)) up) i (omega arith) is d)

-- no place has the stem
none_has : (ls : List Listing) (stem : List ℕ) → ((i : ℕ) (d : Listing) → i < length ls → is_eq (stem_cmp (get_or ls i d).stem stem) ≡ false) → versions_of (map seen ls) stem ≡ []
none_has [] stem not = refl
none_has (l ∷ ls) stem not = rw (not zero l (omega arith)) (none_has ls stem (λ i d within. not (suc i) d (omega arith)))

pub searched_found : (ls : List Listing) (stem : List ℕ) → StemsAscend (map seen ls) → (r : Result ℕ ℕ) → IsSearchInRange r (length ls) → IsBinarySearchResult (λ (l : Listing). stem_cmp l.stem stem) ls r
    → IfOk r (λ i. (d : Listed) → (get_or (map seen ls) i d).versions ≡ versions_of (map seen ls) stem)
searched_found ls stem up (Ok i) within found = found_at ls stem up i within found
searched_found ls stem up (Err i) within found = tt

pub searched_absent : (ls : List Listing) (stem : List ℕ) → StemsAscend (map seen ls) → (r : Result ℕ ℕ) → IsBinarySearchResult (λ (l : Listing). stem_cmp l.stem stem) ls r → OnErr r (versions_of (map seen ls) stem ≡ [])
searched_absent ls stem up (Ok i) found = tt
searched_absent ls stem up (Err i) found =
    let split = found (searchable_from_sorted nat_list_cmp_total (λ (l : Listing). l.stem) ls stem (ascend ls up)) in
    none_has ls stem (λ k d within. elim (cases_lt k i) [ inl lower ↦ ap is_eq (split.0 k d (omega arith) lower) | inr upper ↦ ap is_eq (split.1 k d upper within) ])

pub seen_at : (ls : List Listing) (i : ℕ) (d : Listing) → get_or (map seen ls) i (seen d) ≡ seen (get_or ls i d)
seen_at [] i d = refl
seen_at (l ∷ ls) zero d = refl
seen_at (l ∷ ls) (suc i) d = seen_at ls i d
