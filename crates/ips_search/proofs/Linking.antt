-- Tests are found by their last stem.
use Rattle.std.proofs.Common.{◌≡◌, ℕ, zero, suc, ◌+◌, ◌-◌, ◌<◌, ◌≤◌, inl, inr, false, List, [], ◌∷◌, ◌++◌, length, slice_index, slice_set, refl, sym, ap, ◌∙◌, subst, arith, get_or-set_same, get_or-set_other}
use Rattle.std.specs.Prelude.{replicate}
use Rattle.std.proofs.Math.ListN.{length-set}
use Rattle.std.proofs.lemmas.Bool.{cases_eq, cases_lt}
use Rattle.std.proofs.lemmas.List.{length-replicate, length_push, get_or_push, get_or_append_left}
use Rattle.ips_refute.specs.declared.nogoods.Pair.{Pair}
use Rattle.ips_refute.specs.Meaning.{Meaning, Lawful, IsBeginning, BreaksNone, pairs}
use Rattle.ips_search.specs.declared.chains.Chains.{Chains}
use Rattle.ips_search.specs.Indexing.{IsCursor, IsIndexedTo, IsIndexed, IsPut}
use Rattle.ips_search.proofs.Walks.{none_fails}

-- ---- making the index

zero_of : (n i : ℕ) → slice_index (replicate n 0) i ≡ 0
zero_of zero i = refl
zero_of (suc n) zero = refl
zero_of (suc n) (suc i) = zero_of n i

no_tests : (m : Meaning) (s c : ℕ) → c ≡ 0 → IsCursor m s 0 c
no_tests m s c e = record { within = omega arith; ends = λ lt. absurd (omega arith); none = λ t a b f. omega arith }

pub nothing_put : (m : Meaning) (tests : Chains) (stems : ℕ) → stems ≡ m.stems → tests.heads.items ≡ replicate stems 0 → tests.links.items ≡ [] → IsIndexedTo m 0 tests
nothing_put m tests stems n e f = record {
  stems = ap length e ∙ length-replicate stems 0 ∙ n;
  counted = ap length f;
  heads = λ s lt. no_tests m s (slice_index tests.heads.items s) (ap (λ l. slice_index l s) e ∙ zero_of stems s);
  links = λ t lt. absurd (omega arith);
}

one_more : (m : Meaning) (s n c : ℕ) → IsCursor m s n c → (m.last n ≡ s → ⊥) → IsCursor m s (n + 1) c
one_more m s n c h other = record {
  within = omega (arith, h.within);
  ends = h.ends;
  none = λ t a b e. elim (cases_lt t n) [
    | inl lt ↦ h.none t a lt e
    | inr ge ↦ let at : t ≡ n = omega arith in other (ap m.last (sym at) ∙ e)
  ];
}

this_one : (m : Meaning) (s n c : ℕ) → m.last n ≡ s → c ≡ n + 1 → IsCursor m s (n + 1) c
this_one m s n c e at =
    let k : c - 1 ≡ n = omega arith in
    record { within = omega arith; ends = λ _. ap m.last k ∙ e; none = λ t a b f. omega arith }

pub put_one : (m : Meaning) (t : ℕ) (before after : Chains) → m.last t < m.stems → IsIndexedTo m t before → IsPut before after (m.last t) → IsIndexedTo m (t + 1) after
put_one m t before after known h put =
    let s0 = m.last t in
    let hs = before.heads.items in
    let ls = before.links.items in
    let in_heads : s0 < length hs = omega (arith, h.stems) in
    record {
      stems = ap length put.heads ∙ length-set hs s0 (length ls + 1) ∙ h.stems;
      counted = ap length put.links ∙ length_push ls (slice_index hs s0) ∙ ap (λ n. n + 1) h.counted;
      heads = λ s lt. elim (cases_eq s s0) [
        | inl same ↦
            let at : slice_index after.heads.items s ≡ t + 1 =
            ap (λ l. slice_index l s) put.heads ∙ ap (slice_index (slice_set hs s0 (length ls + 1))) same ∙ get_or-set_same hs s0 (length ls + 1) 0 in_heads ∙ ap (λ n. n + 1) h.counted in
            this_one m s t (slice_index after.heads.items s) (sym same) at
        | inr other ↦
            let at : slice_index after.heads.items s ≡ slice_index hs s = ap (λ l. slice_index l s) put.heads ∙ get_or-set_other hs s0 s (length ls + 1) 0 other in
            subst (λ c. IsCursor m s (t + 1) c) (sym at) (one_more m s t (slice_index hs s) (h.heads s lt) (λ e. other (sym e)))
      ];
      links = λ u lt. elim (cases_lt u t) [
        | inl old ↦
            let at : slice_index after.links.items u ≡ slice_index ls u = ap (λ l. slice_index l u) put.links ∙ get_or_append_left ls (slice_index hs s0 ∷ []) 0 u (omega (arith, h.counted)) in
            subst (λ c. IsCursor m (m.last u) u c) (sym at) (h.links u old)
        | inr ge ↦
            let here : u ≡ t = omega arith in
            let at : slice_index after.links.items u ≡ slice_index hs s0 = ap (λ l. slice_index l u) put.links ∙ get_or_push ls (slice_index hs s0) 0 u (omega (arith, h.counted)) in
            subst (λ c. IsCursor m (m.last u) u c) (sym at) (subst (λ n. IsCursor m (m.last n) n (slice_index hs s0)) (sym here) (h.heads s0 known))
      ];
    }

pub indexed_all : (m : Meaning) (n : ℕ) (tests : Chains) → n ≡ m.tests → IsIndexedTo m n tests → IsIndexed m tests
indexed_all m n tests e h = subst (λ k. IsIndexedTo m k tests) e h

-- ---- looking for a broken test

-- the tests from the cursor on that end at the stem aren't broken
pub record HasPassed (m : Meaning) (more : Pair) (chosen : List Pair) (cursor : ℕ) : Type 0 where
  pub within : cursor ≤ m.tests
  pub ends : 0 < cursor → m.last (cursor - 1) ≡ more.stem
  pub passed : (t : ℕ) → cursor ≤ t → t < m.tests → m.last t ≡ more.stem → m.breaks t (more ∷ chosen) ≡ false

pub passed_none : (m : Meaning) (more : Pair) (chosen : List Pair) (cursor : ℕ) → IsCursor m more.stem m.tests cursor → HasPassed m more chosen cursor
passed_none m more chosen cursor h = record { within = h.within; ends = h.ends; passed = λ t a b e. absurd (h.none t a b e) }

pub passed_one : (m : Meaning) (more : Pair) (chosen : List Pair) (cursor next : ℕ) → 0 < cursor → HasPassed m more chosen cursor → m.breaks (cursor - 1) (more ∷ chosen) ≡ false → IsCursor m (m.last (cursor - 1)) (cursor - 1) next → HasPassed m more chosen next
passed_one m more chosen cursor next some h whole c =
    let at = h.ends some in
    record {
      within = omega (arith, c.within, h.within);
      ends = λ lt. c.ends lt ∙ at;
      passed = λ t a b e. elim (cases_lt t (cursor - 1)) [
        | inl lt ↦ absurd (c.none t a lt (e ∙ sym at))
        | inr ge ↦ elim (cases_eq t (cursor - 1)) [
          | inl same ↦ subst (λ k. m.breaks k (more ∷ chosen) ≡ false) (sym same) whole
          | inr other ↦ h.passed t (omega arith) b e
        ]
      ];
    }

pub passed_all : (m : Meaning) → Lawful m → (p : List ℕ) (more : Pair) (chosen : List Pair) (cursor : ℕ) → IsBeginning m p → chosen ≡ pairs p → more.stem ≡ length p → cursor ≤ 0 → HasPassed m more chosen cursor → BreaksNone m (pairs (p ++ more.candidate ∷ []))
passed_all m law p more chosen cursor good e at end h =
    none_fails m law p more chosen m.tests good e at (omega arith) (λ t lt last. h.passed t (omega arith) lt last)
