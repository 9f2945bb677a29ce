-- The version of a package that is sought by its stem.
use Rattle.std.proofs.Common.{◌≡◌, ◌⊎◌, ℕ, zero, suc, ◌+◌, ◌<◌, ◌≤◌, Bool, false, cond, List, [], ◌∷◌, length, map, get_or, Some, None, nat_cmp, refl, sym, ap, ◌∙◌, inl, inr, arith}
use Rattle.std.specs.declared.cmp.Ordering.TheVariants.{Less, Equal, Greater}
use Rattle.std.specs.Ordering.{is_lt, ordering_index, ordering_reverse}
use Rattle.std.specs.Cmp.Lexicographic.{slice_cmp}
use Rattle.std.specs.List.{AllByRecursion}
use Rattle.std.specs.List.Sorted.{IsNonDecreasingBy, IsPartitionPoint, IsStrictlySortedBy}
use Rattle.std.proofs.lemmas.List.Elements.{recursion_from_All}
use Rattle.std.proofs.lemmas.List.Sorted.{searchable_from_sorted}
use Rattle.std.proofs.lemmas.Bool.{cases_lt, false_from_ne_true}
use Rattle.std.proofs.lemmas.Cmp.{nat_list_cmp_total, tied_itself}
use Rattle.std.proofs.lemmas.Map.Lookups.{exact_bytes}
use Rattle.ips_text.specs.Ancestry.{same_path}
use Rattle.ips_text.proofs.Ancestry.{same_path-self, same_path-true}
use Rattle.ips_manifest.specs.declared.package.Package.{Package}
use Rattle.ips_plan_limits.specs.Counts.{version_at}

abbrev stems_of : List Package → List (List ℕ)
stems_of packages = map (λ (p : Package). p.stem) packages

abbrev pub Ascends : List Package → Type 0
Ascends packages = IsStrictlySortedBy (slice_cmp nat_cmp) (stems_of packages)

-- a package whose stem doesn't tie has another one
unlike : (n : Package) (q : List ℕ) → (slice_cmp nat_cmp n.stem q ≡ Equal → ⊥) → same_path n.stem q ≡ false
unlike n q untied = false_from_ne_true _ (λ same. untied (ap (slice_cmp nat_cmp n.stem) (sym (same_path-true n.stem q same)) ∙ tied_itself nat_list_cmp_total n.stem))

less_here : (p : List ℕ) (packages : List Package) → AllByRecursion (λ y. slice_cmp nat_cmp p y ≡ Less) (stems_of packages) → (i : ℕ) (d : Package) → i < length packages → slice_cmp nat_cmp p (get_or packages i d).stem ≡ Less
less_here p [] all i d lt = absurd (omega (arith, lt))
less_here p (n ∷ packages) all zero d lt = all.0
less_here p (n ∷ packages) all (suc i) d lt = less_here p packages all.1 i d (omega (arith, lt))

rising : (packages : List Package) → Ascends packages → (k : ℕ) (d : Package) → suc k < length packages → is_lt (slice_cmp nat_cmp (get_or packages (suc k) d).stem (get_or packages k d).stem) ≡ false
unfolding IsStrictlySortedBy
rising [] up k d lt = absurd (omega (arith, lt))
rising (n ∷ packages) up zero d lt =
    ap is_lt (nat_list_cmp_total.antisymm (get_or packages 0 d).stem n.stem ∙ ap ordering_reverse (less_here n.stem packages up.0 0 d (omega (arith, lt))))
rising (n ∷ packages) up (suc k) d lt = rising packages up.1 k d (omega (arith, lt))

pub searchable : (packages : List Package) (q : List ℕ) → Ascends packages → IsNonDecreasingBy (λ (n : Package). ordering_index (slice_cmp nat_cmp n.stem q)) packages
searchable packages q up = searchable_from_sorted nat_list_cmp_total (λ (n : Package). n.stem) packages q (λ k d le lt. let e : k + 1 ≡ suc k = omega arith in rw e (rising packages up k d (omega (arith, lt))))

pub found_at : (packages : List Package) (q : List ℕ) (i : ℕ) (d : Package) → Ascends packages → i < length packages → slice_cmp nat_cmp (get_or packages i d).stem q ≡ Equal → version_at packages q ≡ Some (get_or packages i d).version
unfolding IsStrictlySortedBy
found_at [] q i d up lt is = absurd (omega (arith, lt))
found_at (n ∷ packages) q zero d up lt is = ap (λ (b : Bool). cond b (Some n.version) (version_at packages q)) (ap (same_path n.stem) (sym (exact_bytes n.stem q is)) ∙ same_path-self n.stem)
found_at (n ∷ packages) q (suc i) d up lt is =
    let here = less_here n.stem packages up.0 i d (omega (arith, lt)) in
    let less : slice_cmp nat_cmp n.stem q ≡ Less = ap (slice_cmp nat_cmp n.stem) (sym (exact_bytes (get_or packages i d).stem q is)) ∙ here in
    ap (λ (b : Bool). cond b (Some n.version) (version_at packages q)) (unlike n q (λ tie. let bad : Less ≡ Equal = sym less ∙ tie in absurd cc)) ∙ found_at packages q i d up.1 (omega (arith, lt)) is

none_at : (packages : List Package) (q : List ℕ) → AllByRecursion (λ (n : Package). same_path n.stem q ≡ false) packages → version_at packages q ≡ None
none_at [] q all = refl
none_at (n ∷ packages) q all = ap (λ (b : Bool). cond b (Some n.version) (version_at packages q)) all.0 ∙ none_at packages q all.1

pub not_found : (packages : List Package) (q : List ℕ) (i : ℕ) → IsPartitionPoint (λ (n : Package). slice_cmp nat_cmp n.stem q ≡ Less) (λ (n : Package). slice_cmp nat_cmp n.stem q ≡ Greater) packages i → version_at packages q ≡ None
not_found packages q i h = none_at packages q (recursion_from_All (λ (n : Package). same_path n.stem q ≡ false) packages (λ k d lt. go k d lt (cases_lt k i)))
  where
    go : (k : ℕ) (d : Package) → k < length packages → (k < i) ⊎ (i ≤ k) → same_path (get_or packages k d).stem q ≡ false
    go k d lt (inl low) = unlike (get_or packages k d) q (λ tie. let bad : Less ≡ Equal = sym (h.0 k d (omega arith) low) ∙ tie in absurd cc)
    go k d lt (inr high) = unlike (get_or packages k d) q (λ tie. let bad : Greater ≡ Equal = sym (h.1 k d high lt) ∙ tie in absurd cc)
