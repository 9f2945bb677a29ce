-- What is said of a path that is sought among named ones.
use Rattle.std.proofs.Common.{◌≡◌, ◌⊎◌, ℕ, zero, suc, ◌+◌, ◌<◌, ◌≤◌, Bool, true, false, cond, ◌||◌, List, [], ◌∷◌, length, map, get_or, Option, Some, None, nat_cmp, refl, sym, ap, ◌∙◌, inl, inr, arith}
use Rattle.std.specs.Prelude.{is_some}
use Rattle.std.specs.declared.cmp.Ordering.TheVariants.{Less, Equal, Greater}
use Rattle.std.specs.Ordering.{is_lt, ordering_index, ordering_reverse}
use Rattle.std.specs.Cmp.Lexicographic.{slice_cmp}
use Rattle.std.specs.List.{AllByRecursion}
use Rattle.std.specs.List.Sorted.{IsNonDecreasingBy, IsPartitionPoint, IsStrictlySortedBy}
use Rattle.std.proofs.lemmas.List.Elements.{recursion_from_All}
use Rattle.std.proofs.lemmas.List.Sorted.{searchable_from_sorted}
use Rattle.std.proofs.lemmas.Bool.{cases_Bool, cases_lt, false_from_ne_true}
use Rattle.std.proofs.lemmas.Cmp.{nat_list_cmp_total, tied_itself}
use Rattle.std.proofs.lemmas.Map.Lookups.{exact_bytes}
use Rattle.std.proofs.lemmas.Option.{same_Some}
use Rattle.ips_text.specs.Ancestry.{same_path}
use Rattle.ips_text.proofs.Ancestry.{same_path-self, same_path-true}
use Rattle.ips_due.specs.declared.outstanding.verdict.Named.{Named}
use Rattle.ips_due.specs.outstanding.Verdicts.{named_paths}
use Rattle.ips_due_laying.specs.Laying.{verdict_at}

abbrev pub Ascends : List Named → Type 0
Ascends named = IsStrictlySortedBy (slice_cmp nat_cmp) (named_paths named)

-- paths that don't tie are two
apart : (p q : List ℕ) → (slice_cmp nat_cmp p q ≡ Equal → ⊥) → same_path p q ≡ false
apart p q untied = false_from_ne_true _ (λ same. untied (ap (slice_cmp nat_cmp p) (sym (same_path-true p q same)) ∙ tied_itself nat_list_cmp_total p))

less_here : (p : List ℕ) (named : List Named) → AllByRecursion (λ y. slice_cmp nat_cmp p y ≡ Less) (named_paths named) → (i : ℕ) (d : Named) → i < length named → slice_cmp nat_cmp p (get_or named i d).path.bytes ≡ Less
less_here p [] all i d lt = absurd (omega (arith, lt))
less_here p (n ∷ named) all zero d lt = all.0
less_here p (n ∷ named) all (suc i) d lt = less_here p named all.1 i d (omega (arith, lt))

rising : (named : List Named) → Ascends named → (k : ℕ) (d : Named) → suc k < length named → is_lt (slice_cmp nat_cmp (get_or named (suc k) d).path.bytes (get_or named k d).path.bytes) ≡ false
unfolding IsStrictlySortedBy
rising [] up k d lt = absurd (omega (arith, lt))
rising (n ∷ named) up zero d lt =
    ap is_lt (nat_list_cmp_total.antisymm (get_or named 0 d).path.bytes n.path.bytes ∙ ap ordering_reverse (less_here n.path.bytes named up.0 0 d (omega (arith, lt))))
rising (n ∷ named) up (suc k) d lt = rising named up.1 k d (omega (arith, lt))

pub searchable : (named : List Named) (q : List ℕ) → Ascends named → IsNonDecreasingBy (λ (n : Named). ordering_index (slice_cmp nat_cmp n.path.bytes q)) named
searchable named q up = searchable_from_sorted nat_list_cmp_total (λ (n : Named). n.path.bytes) named q (λ k d le lt. let e : k + 1 ≡ suc k = omega arith in rw e (rising named up k d (omega (arith, lt))))

pub found_at : (named : List Named) (q : List ℕ) (i : ℕ) (d : Named) → Ascends named → i < length named → slice_cmp nat_cmp (get_or named i d).path.bytes q ≡ Equal → verdict_at named q ≡ (get_or named i d).verdict
unfolding IsStrictlySortedBy
found_at [] q i d up lt is = absurd (omega (arith, lt))
found_at (n ∷ named) q zero d up lt is = ap (λ (b : Bool). cond b n.verdict (verdict_at named q)) (ap (same_path n.path.bytes) (sym (exact_bytes n.path.bytes q is)) ∙ same_path-self n.path.bytes)
found_at (n ∷ named) q (suc i) d up lt is =
    let here = less_here n.path.bytes named up.0 i d (omega (arith, lt)) in
    let less : slice_cmp nat_cmp n.path.bytes q ≡ Less = ap (slice_cmp nat_cmp n.path.bytes) (sym (exact_bytes (get_or named i d).path.bytes q is)) ∙ here in
    ap (λ (b : Bool). cond b n.verdict (verdict_at named q)) (apart n.path.bytes q (λ tie. let bad : Less ≡ Equal = sym less ∙ tie in absurd cc)) ∙ found_at named q i d up.1 (omega (arith, lt)) is

none_at : (named : List Named) (q : List ℕ) → AllByRecursion (λ (n : Named). same_path n.path.bytes q ≡ false) named → verdict_at named q ≡ None
none_at [] q all = refl
none_at (n ∷ named) q all = ap (λ (b : Bool). cond b n.verdict (verdict_at named q)) all.0 ∙ none_at named q all.1

pub not_found : (named : List Named) (q : List ℕ) (i : ℕ) → IsPartitionPoint (λ (n : Named). slice_cmp nat_cmp n.path.bytes q ≡ Less) (λ (n : Named). slice_cmp nat_cmp n.path.bytes q ≡ Greater) named i → verdict_at named q ≡ None
not_found named q i h = none_at named q (recursion_from_All (λ (n : Named). same_path n.path.bytes q ≡ false) named (λ k d lt. go k d lt (cases_lt k i)))
  where
    go : (k : ℕ) (d : Named) → k < length named → (k < i) ⊎ (i ≤ k) → same_path (get_or named k d).path.bytes q ≡ false
    go k d lt (inl low) = apart (get_or named k d).path.bytes q (λ tie. let bad : Less ≡ Equal = sym (h.0 k d (omega arith) low) ∙ tie in absurd cc)
    go k d lt (inr high) = apart (get_or named k d).path.bytes q (λ tie. let bad : Greater ≡ Equal = sym (h.1 k d high lt) ∙ tie in absurd cc)
