-- A catalog with one version more.
use Rattle.std.proofs.Common.{◌≡◌, ℕ, zero, suc, Some, slice_get, Bool, true, false, cond, List, [], ◌∷◌, Ordering, Less, Equal, Greater, refl, sym, ap, subst, ◌∙◌}
use Rattle.std.specs.Prelude.{map}
use Rattle.std.specs.List.{AllByRecursion}
use Rattle.std.specs.List.Sorted.{IsStrictlySortedBy}
use Rattle.std.specs.Ordering.{nat_cmp, match_ordering, ordering_reverse, is_eq}
use Rattle.std.specs.Cmp.Lexicographic.{slice_cmp}
use Rattle.std.specs.BTreeSet.{insert_key}
use Rattle.std.proofs.lemmas.Cmp.{nat_list_cmp_total, tied_itself, eq_by_cmp_equiv}
use Rattle.std.proofs.lemmas.Map.Keys.{sorted_head, sorted_tail}
use Rattle.ips_fmri.specs.Version.{Parts, IsVersion}
use Rattle.ips_fmri.specs.Name.{IsStem}
use Rattle.ips_fmri.specs.Order.{version_cmp, version_total}
use Rattle.ips_catalog.specs.Listed.{Listed, VersionsAscend, IsInOrder, versions_of}
use Rattle.std.proofs.lemmas.Map.Text.{is_eq-slice_cmp}
use Rattle.std.proofs.lemmas.Slice.Eq.{bytes_eq-Decides}
use Rattle.ips_catalog.proofs.Orders.{sorted_insert}
use Rattle.ips_listing.specs.Text.{IsListing, AreListings, listed_alone, with_its_version, with_version}

abbrev stem_cmp : List ℕ → List ℕ → Ordering
stem_cmp = slice_cmp nat_cmp

abbrev stem_of : Listed → List ℕ
stem_of listed = listed.stem

all_versions : (P : Parts → Type 0) (versions : List Parts) (version : Parts) → AllByRecursion P versions → P version → AllByRecursion P (insert_key version_cmp versions version)
all_versions P [] version all is = (is, tt)
all_versions P (other ∷ versions) version all is = by (version_cmp version other) (all_versions P versions version all.1 is)
  where
    by : (o : Ordering) → AllByRecursion P (insert_key version_cmp versions version) → AllByRecursion P (match_ordering o (version ∷ other ∷ versions) (other ∷ versions) (other ∷ insert_key version_cmp versions version))
    by Less more = (is, all)
    by Equal more = all
    by Greater more = (all.0, more)

pub lists_more : (stem : List ℕ) (version : Parts) (catalog : List Listed) → IsStem false stem → IsVersion version → AreListings catalog → AreListings (with_version stem version catalog)
lists_more stem version [] is_stem is_version are = (record { stem = is_stem; versions = (is_version, tt) }, tt)
lists_more stem version (listed ∷ catalog) is_stem is_version are = by (stem_cmp stem listed.stem) (lists_more stem version catalog is_stem is_version are.1)
  where
    by : (o : Ordering) → AreListings (with_version stem version catalog)
        → AreListings (match_ordering o (listed_alone stem version ∷ listed ∷ catalog) (with_its_version listed version ∷ catalog) (listed ∷ with_version stem version catalog))
    by Less more = (record { stem = is_stem; versions = (is_version, tt) }, are)
    by Equal more = (record { stem = are.0.stem; versions = all_versions IsVersion listed.versions version are.0.versions is_version }, are.1)
    by Greater more = (are.0, more)

stems_put : (stem : List ℕ) (version : Parts) (catalog : List Listed) → map stem_of (with_version stem version catalog) ≡ insert_key stem_cmp (map stem_of catalog) stem
stems_put stem version [] = refl
stems_put stem version (listed ∷ catalog) = by (stem_cmp stem listed.stem) (stems_put stem version catalog)
  where
    by : (o : Ordering) → map stem_of (with_version stem version catalog) ≡ insert_key stem_cmp (map stem_of catalog) stem
        → map stem_of (match_ordering o (listed_alone stem version ∷ listed ∷ catalog) (with_its_version listed version ∷ catalog) (listed ∷ with_version stem version catalog))
        ≡ match_ordering o (stem ∷ listed.stem ∷ map stem_of catalog) (listed.stem ∷ map stem_of catalog) (listed.stem ∷ insert_key stem_cmp (map stem_of catalog) stem)
    by Less more = refl
    by Equal more = refl
    by Greater more = ap (λ (ss : List (List ℕ)). listed.stem ∷ ss) more

versions_put : (stem : List ℕ) (version : Parts) (catalog : List Listed) → VersionsAscend catalog → VersionsAscend (with_version stem version catalog)
unfolding IsStrictlySortedBy
versions_put stem version [] up = ((tt, tt), tt)
versions_put stem version (listed ∷ catalog) up = by (stem_cmp stem listed.stem) (versions_put stem version catalog up.1)
  where
    by : (o : Ordering) → VersionsAscend (with_version stem version catalog)
        → VersionsAscend (match_ordering o (listed_alone stem version ∷ listed ∷ catalog) (with_its_version listed version ∷ catalog) (listed ∷ with_version stem version catalog))
    by Less more = ((tt, tt), up)
    by Equal more = (sorted_insert version_total listed.versions version up.0, up.1)
    by Greater more = (up.0, more)

pub in_order_more : (stem : List ℕ) (version : Parts) (catalog : List Listed) → IsInOrder catalog → IsInOrder (with_version stem version catalog)
in_order_more stem version catalog up = record {
  stems = subst (IsStrictlySortedBy stem_cmp) (sym (stems_put stem version catalog)) (sorted_insert nat_list_cmp_total (map stem_of catalog) stem up.stems);
  versions = versions_put stem version catalog up.versions;
}

-- ---- whose versions

above : (x y : List ℕ) → stem_cmp x y ≡ Less → is_eq (stem_cmp y x) ≡ false
above x y less = ap is_eq (nat_list_cmp_total.antisymm y x ∙ ap ordering_reverse less)

same_as : (x y : List ℕ) → stem_cmp x y ≡ Equal → x ≡ y
same_as x y e = (bytes_eq-Decides x y).0 (sym (is_eq-slice_cmp x y) ∙ ap is_eq e)

-- a stem that comes before all of them isn't listed
none_before : (stem : List ℕ) (catalog : List Listed) → AllByRecursion (λ k. stem_cmp stem k ≡ Less) (map stem_of catalog) → versions_of catalog stem ≡ []
none_before stem [] all = refl
none_before stem (listed ∷ catalog) all = rw (above stem listed.stem all.0) (none_before stem catalog all.1)

pub all_before : (stem : List ℕ) (first : List ℕ) (stems : List (List ℕ)) → stem_cmp stem first ≡ Less → AllByRecursion (λ k. stem_cmp first k ≡ Less) stems → AllByRecursion (λ k. stem_cmp stem k ≡ Less) stems
all_before stem first [] less all = tt
all_before stem first (k ∷ stems) less all = (nat_list_cmp_total.trans stem first k less all.0, all_before stem first stems less all.1)

pub its_versions : (stem : List ℕ) (version : Parts) (catalog : List Listed) → IsStrictlySortedBy stem_cmp (map stem_of catalog) → versions_of (with_version stem version catalog) stem ≡ insert_key version_cmp (versions_of catalog stem) version
its_versions stem version [] up = rw (tied_itself nat_list_cmp_total stem) refl
its_versions stem version (listed ∷ catalog) up = by (stem_cmp stem listed.stem) refl (its_versions stem version catalog (sorted_tail stem_cmp listed.stem (map stem_of catalog) up))
  where
    back : (o : Ordering) → stem_cmp stem listed.stem ≡ o → stem_cmp listed.stem stem ≡ ordering_reverse o
    back o e = nat_list_cmp_total.antisymm listed.stem stem ∙ ap ordering_reverse e

    none : stem_cmp stem listed.stem ≡ Less → versions_of catalog stem ≡ []
    none e = none_before stem catalog (all_before stem listed.stem (map stem_of catalog) e (sorted_head stem_cmp listed.stem (map stem_of catalog) up))

    by : (o : Ordering) → stem_cmp stem listed.stem ≡ o → versions_of (with_version stem version catalog) stem ≡ insert_key version_cmp (versions_of catalog stem) version
        → versions_of (match_ordering o (listed_alone stem version ∷ listed ∷ catalog) (with_its_version listed version ∷ catalog) (listed ∷ with_version stem version catalog)) stem
        ≡ insert_key version_cmp (cond (is_eq (stem_cmp listed.stem stem)) listed.versions (versions_of catalog stem)) version
    by Less e more = rw (tied_itself nat_list_cmp_total stem, back Less e, none e) refl
    by Equal e more = rw (back Equal e) refl
    by Greater e more = rw (back Greater e) more

pub other_versions : (stem other : List ℕ) (version : Parts) (catalog : List Listed) → (other ≡ stem → ⊥) → versions_of (with_version stem version catalog) other ≡ versions_of catalog other
other_versions stem other version [] apart = skipped (stem_cmp stem other) refl
  where
    skipped : (o : Ordering) → stem_cmp stem other ≡ o → cond (is_eq o) (version ∷ []) [] ≡ []
    skipped Less e = refl
    skipped Equal e = absurd (apart (sym (same_as stem other e)))
    skipped Greater e = refl
other_versions stem other version (listed ∷ catalog) apart = by (stem_cmp stem listed.stem) refl (other_versions stem other version catalog apart)
  where
    skipped : (o : Ordering) (rest : List Parts) → stem_cmp stem other ≡ o → cond (is_eq o) (version ∷ []) rest ≡ rest
    skipped Less rest e = refl
    skipped Equal rest e = absurd (apart (sym (same_as stem other e)))
    skipped Greater rest e = refl

    passed : (o : Ordering) → stem_cmp stem listed.stem ≡ Equal → stem_cmp listed.stem other ≡ o → cond (is_eq o) (insert_key version_cmp listed.versions version) (versions_of catalog other) ≡ cond (is_eq o) listed.versions (versions_of catalog other)
    passed Less same e = refl
    passed Equal same e = absurd (apart (sym (same_as stem listed.stem same ∙ same_as listed.stem other e)))
    passed Greater same e = refl

    by : (o : Ordering) → stem_cmp stem listed.stem ≡ o → versions_of (with_version stem version catalog) other ≡ versions_of catalog other
        → versions_of (match_ordering o (listed_alone stem version ∷ listed ∷ catalog) (with_its_version listed version ∷ catalog) (listed ∷ with_version stem version catalog)) other
        ≡ cond (is_eq (stem_cmp listed.stem other)) listed.versions (versions_of catalog other)
    by Less e more = skipped (stem_cmp stem other) (versions_of (listed ∷ catalog) other) refl
    by Equal e more = passed (stem_cmp listed.stem other) e refl
    by Greater e more = ap (λ (vs : List Parts). cond (is_eq (stem_cmp listed.stem other)) listed.versions vs) more

-- ---- the package at a place

stem_within : (catalog : List Listed) (place : ℕ) (found : Listed) (first : List ℕ) → AllByRecursion (λ k. stem_cmp first k ≡ Less) (map stem_of catalog) → slice_get catalog place ≡ Some found → stem_cmp first found.stem ≡ Less
stem_within [] place found first all at = absurd cc
stem_within (listed ∷ catalog) zero found first all at = let is : listed ≡ found = cc in subst (λ (l : Listed). stem_cmp first l.stem ≡ Less) is all.0
stem_within (listed ∷ catalog) (suc place) found first all at = stem_within catalog place found first all.1 at

pub at_place : (catalog : List Listed) (place : ℕ) (found : Listed) → IsStrictlySortedBy stem_cmp (map stem_of catalog) → slice_get catalog place ≡ Some found → versions_of catalog found.stem ≡ found.versions
at_place [] place found up at = absurd cc
at_place (listed ∷ catalog) zero found up at =
    let is : listed ≡ found = cc in
    subst (λ (l : Listed). cond (is_eq (stem_cmp listed.stem l.stem)) listed.versions (versions_of catalog l.stem) ≡ l.versions) is (rw (tied_itself nat_list_cmp_total listed.stem) refl)
at_place (listed ∷ catalog) (suc place) found up at =
    let less = stem_within catalog place found listed.stem (sorted_head stem_cmp listed.stem (map stem_of catalog) up) at in
    rw less (at_place catalog place found (sorted_tail stem_cmp listed.stem (map stem_of catalog) up) at)
