-- How many stems and versions a catalog lists with one version more, and which limit is passed by sizes alone.
use Rattle.std.proofs.Common.{◌≡◌, ℕ, zero, suc, ◌+◌, ◌<◌, Bool, true, false, cond, ◌||◌, List, [], ◌∷◌, map, length, take, get_or, Option, Some, None, slice_get, Ordering, Less, Equal, Greater, refl, sym, ap, subst, ◌∙◌, arith}
use Rattle.std.specs.Prelude.{IfSome, IfNone}
use Rattle.std.specs.List.{AllByRecursion, Contains, list_any}
use Rattle.std.specs.List.Sorted.{IsStrictlySortedBy}
use Rattle.std.specs.Option.{option_map}
use Rattle.std.specs.Ordering.{nat_cmp, match_ordering, MatchOrdering, ordering_reverse, is_eq}
use Rattle.std.specs.Cmp.Lexicographic.{slice_cmp}
use Rattle.std.specs.BTreeSet.{insert_key}
use Rattle.std.proofs.lemmas.Bool.{true≢false, false_from_ne_true}
use Rattle.std.proofs.lemmas.Cmp.{nat_list_cmp_total, tied_itself}
use Rattle.std.proofs.lemmas.List.Folds.{list_any_more, list_any_at}
use Rattle.std.proofs.lemmas.List.Sums.{sum_by-cons}
use Rattle.std.proofs.lemmas.Map.Keys.{sorted_head, sorted_tail}
use Rattle.ips_text.specs.declared.limits.Which.{Which}
use Rattle.ips_text.specs.declared.limits.Which.TheVariants.{CatalogBytes, Stems, Versions, ManifestBytes, AllManifests, PayloadBytes, ImageFileBytes, AccountBytes, Steps, Names}
use Rattle.ips_fmri.specs.Version.{Parts}
use Rattle.ips_fmri.specs.Order.{IsLess, version_cmp}
use Rattle.ips_fmri.proofs.Orders.{versions_tell}
use Rattle.ips_action.specs.Attrs.{is_same}
use Rattle.ips_action.proofs.KeyOrder.{same_true, same_self, equal_is}
use Rattle.ips_catalog.specs.Listed.{Listed, versions_of, count_of}
use Rattle.ips_listing.specs.Text.{listed_alone, with_its_version, with_version}
use Rattle.ips_listing.proofs.Puts.{all_before}
use Rattle.ips_sends.specs.Judged.{Put, IsOverPut}
use Rattle.ips_prepare.specs.declared.limits.Over.{Over}
use Rattle.ips_prepare.specs.Limits.{is_listed, IsOverSizes}

abbrev stem_cmp : List ℕ → List ℕ → Ordering
stem_cmp = slice_cmp nat_cmp

abbrev stem_of : Listed → List ℕ
stem_of listed = listed.stem

abbrev pub is_of : List ℕ → Listed → Bool
is_of stem listed = is_same stem listed.stem

-- ---- whether a stem is listed

stem_at : (catalog : List Listed) (i : ℕ) (found : List ℕ) (d : Listed) → Some found ≡ option_map stem_of (slice_get catalog i) → (get_or catalog i d).stem ≡ found
stem_at [] i found d at = absurd cc
stem_at (l ∷ catalog) zero found d at = let is : found ≡ l.stem = cc in sym is
stem_at (l ∷ catalog) (suc i) found d at = stem_at catalog i found d at

-- the stem at a place is another
pub passed_by : (stem : List ℕ) (catalog : List Listed) (i : ℕ) (found : List ℕ) → i < length catalog → Some found ≡ option_map stem_of (slice_get catalog i) → is_same stem found ≡ false
    → list_any (is_of stem) (take i catalog) ≡ false → list_any (is_of stem) (take (i + 1) catalog) ≡ false
passed_by stem catalog i found within at other none =
    let d : Listed = record { stem = found; versions = [] } in
    let here : is_same stem (get_or catalog i d).stem ≡ false = ap (is_same stem) (stem_at catalog i found d at) ∙ other in
    list_any_more (is_of stem) catalog i d within ∙ ap (λ (b : Bool). b || is_same stem (get_or catalog i d).stem) none ∙ here

-- the stem at a place is this one
pub listed_at : (stem : List ℕ) (catalog : List Listed) (i : ℕ) (found : List ℕ) → i < length catalog → Some found ≡ option_map stem_of (slice_get catalog i) → is_same stem found ≡ true → is_listed stem catalog ≡ true
listed_at stem catalog i found within at same =
    let d : Listed = record { stem = found; versions = [] } in
    list_any_at (is_of stem) catalog i d within (ap (is_same stem) (stem_at catalog i found d at) ∙ same)

-- ---- how many stems

-- a stem compares as the equal of itself alone
unlike : (stem other : List ℕ) (o : Ordering) → stem_cmp stem other ≡ o → is_eq o ≡ false → is_same stem other ≡ false
unlike stem other o is off = false_from_ne_true (is_same stem other) (λ same.
    true≢false (sym (ap is_eq (sym (ap (stem_cmp stem) (same_true stem other same)) ∙ tied_itself nat_list_cmp_total stem)) ∙ ap is_eq is ∙ off))

alike : (stem other : List ℕ) → stem_cmp stem other ≡ Equal → is_same stem other ≡ true
alike stem other e = same_self stem other (equal_is stem other e)

none_above : (stem : List ℕ) (catalog : List Listed) → AllByRecursion (λ k. stem_cmp stem k ≡ Less) (map stem_of catalog) → is_listed stem catalog ≡ false
none_above stem [] all = refl
none_above stem (l ∷ catalog) all = ap (λ (b : Bool). b || is_listed stem catalog) (unlike stem l.stem Less all.0 refl) ∙ none_above stem catalog all.1

-- one more, unless it is listed
abbrev pub stems_with : Bool → ℕ → ℕ
stems_with listed n = cond listed n (n + 1)

suc_with : (b : Bool) (n : ℕ) → stems_with b n + 1 ≡ stems_with b (n + 1)
suc_with true n = refl
suc_with false n = refl

pub stems_more : (stem : List ℕ) (version : Parts) (catalog : List Listed) → IsStrictlySortedBy stem_cmp (map stem_of catalog) → length (with_version stem version catalog) ≡ stems_with (is_listed stem catalog) (length catalog)
stems_more stem version [] up = refl
stems_more stem version (l ∷ catalog) up = by (stem_cmp stem l.stem) refl (stems_more stem version catalog (sorted_tail stem_cmp l.stem (map stem_of catalog) up))
  where
    none : stem_cmp stem l.stem ≡ Less → is_listed stem catalog ≡ false
    none e = none_above stem catalog (all_before stem l.stem (map stem_of catalog) e (sorted_head stem_cmp l.stem (map stem_of catalog) up))

    by : (o : Ordering) → stem_cmp stem l.stem ≡ o → length (with_version stem version catalog) ≡ stems_with (is_listed stem catalog) (length catalog)
        → length (match_ordering o (listed_alone stem version ∷ l ∷ catalog) (with_its_version l version ∷ catalog) (l ∷ with_version stem version catalog)) ≡ stems_with (is_same stem l.stem || is_listed stem catalog) (length (l ∷ catalog))
    by Less e more =
        let off = unlike stem l.stem Less e refl in
        let out = none e in
        rw (off, out) (omega arith)
    by Equal e more =
        let on = alike stem l.stem e in
        rw on refl
    by Greater e more =
        let off = unlike stem l.stem Greater e refl in
        let long : length (l ∷ with_version stem version catalog) ≡ length (with_version stem version catalog) + 1 = omega arith in
        let were : length (l ∷ catalog) ≡ length catalog + 1 = omega arith in
        rw off (long ∙ ap (λ (n : ℕ). n + 1) more ∙ suc_with (is_listed stem catalog) (length catalog) ∙ ap (stems_with (is_listed stem catalog)) (sym were))

-- ---- how many versions

same_version : (v w : Parts) → version_cmp v w ≡ Equal → v ≡ w
same_version v w e = subst (λ (o : Ordering). MatchOrdering o (IsLess v w) (v ≡ w) (IsLess w v)) e (versions_tell v w).holds

contains_later : {K : Type 0} (x : K) (xs : List K) (q : K) → Contains xs q → Contains (x ∷ xs) q
contains_later x xs q (k, within, is) = (suc k, omega arith, is)

inserted_long : (versions : List Parts) (v : Parts) → (Contains versions v → ⊥) → length (insert_key version_cmp versions v) ≡ length versions + 1
inserted_long [] v new = refl
inserted_long (w ∷ versions) v new = by (version_cmp v w) refl (inserted_long versions v (λ has. new (contains_later w versions v has)))
  where
    by : (o : Ordering) → version_cmp v w ≡ o → length (insert_key version_cmp versions v) ≡ length versions + 1
        → length (match_ordering o (v ∷ w ∷ versions) (w ∷ versions) (w ∷ insert_key version_cmp versions v)) ≡ length (w ∷ versions) + 1
    by Less e more = omega arith
    by Equal e more = absurd (new (zero, omega arith, sym (same_version v w e)))
    by Greater e more = omega (arith, more)

back : (stem other : List ℕ) (o : Ordering) → stem_cmp stem other ≡ o → stem_cmp other stem ≡ ordering_reverse o
back stem other o e = nat_list_cmp_total.antisymm other stem ∙ ap ordering_reverse e

count_cons : (l : Listed) (catalog : List Listed) → count_of (l ∷ catalog) ≡ length l.versions + count_of catalog
count_cons l catalog = sum_by-cons (λ (x : Listed). length x.versions) l catalog

one_first : (n : ℕ) → 1 + n ≡ n + 1
one_first n = omega arith

one_before : (a b : ℕ) → (a + 1) + b ≡ (a + b) + 1
one_before a b = omega arith

one_behind : (a b : ℕ) → a + (b + 1) ≡ (a + b) + 1
one_behind a b = omega arith

pub versions_more : (stem : List ℕ) (version : Parts) (catalog : List Listed) → (Contains (versions_of catalog stem) version → ⊥) → count_of (with_version stem version catalog) ≡ count_of catalog + 1
versions_more stem version [] new = refl
versions_more stem version (l ∷ catalog) new = by (stem_cmp stem l.stem) refl (versions_more stem version catalog)
  where
    its : stem_cmp stem l.stem ≡ Equal → versions_of (l ∷ catalog) stem ≡ l.versions
    its e = ap (λ (o : Ordering). cond (is_eq o) l.versions (versions_of catalog stem)) (back stem l.stem Equal e)

    others : stem_cmp stem l.stem ≡ Greater → versions_of (l ∷ catalog) stem ≡ versions_of catalog stem
    others e = ap (λ (o : Ordering). cond (is_eq o) l.versions (versions_of catalog stem)) (back stem l.stem Greater e)

    by : (o : Ordering) → stem_cmp stem l.stem ≡ o → ((Contains (versions_of catalog stem) version → ⊥) → count_of (with_version stem version catalog) ≡ count_of catalog + 1)
        → count_of (match_ordering o (listed_alone stem version ∷ l ∷ catalog) (with_its_version l version ∷ catalog) (l ∷ with_version stem version catalog)) ≡ count_of (l ∷ catalog) + 1
    by Less e more = count_cons (listed_alone stem version) (l ∷ catalog) ∙ one_first (count_of (l ∷ catalog))
    by Equal e more =
        let long = inserted_long l.versions version (λ has. new (subst (λ (vs : List Parts). Contains vs version) (sym (its e)) has)) in
        count_cons (with_its_version l version) catalog ∙ ap (λ (n : ℕ). n + count_of catalog) long ∙ one_before (length l.versions) (count_of catalog) ∙ ap (λ (n : ℕ). n + 1) (sym (count_cons l catalog))
    by Greater e more =
        let rest = more (λ has. new (subst (λ (vs : List Parts). Contains vs version) (sym (others e)) has)) in
        count_cons l (with_version stem version catalog) ∙ ap (λ (n : ℕ). length l.versions + n) rest ∙ one_behind (length l.versions) (count_of catalog) ∙ ap (λ (n : ℕ). n + 1) (sym (count_cons l catalog))

-- ---- limits by sizes

put_over : (more : List Listed) (put : Put) (which : Which) (count : ℕ) → IsOverSizes (length put.catalog) (length more) (count_of more) (length put.manifest) which count → IsOverPut more put which count
put_over more put CatalogBytes count h = h
put_over more put Stems count h = h
put_over more put Versions count h = h
put_over more put ManifestBytes count h = h
put_over more put AllManifests count h = h
put_over more put PayloadBytes count h = h
put_over more put ImageFileBytes count h = h
put_over more put AccountBytes count h = h
put_over more put Steps count h = h
put_over more put Names count h = h

over_sizes : (more : List Listed) (put : Put) (which : Which) (count : ℕ) → IsOverPut more put which count → IsOverSizes (length put.catalog) (length more) (count_of more) (length put.manifest) which count
over_sizes more put CatalogBytes count h = h
over_sizes more put Stems count h = h
over_sizes more put Versions count h = h
over_sizes more put ManifestBytes count h = h
over_sizes more put AllManifests count h = h
over_sizes more put PayloadBytes count h = h
over_sizes more put ImageFileBytes count h = h
over_sizes more put AccountBytes count h = h
over_sizes more put Steps count h = h
over_sizes more put Names count h = h

module _ (which : Which) (count a b c d e f g h : ℕ) (ae : a ≡ e) (bf : b ≡ f) (cg : c ≡ g) (dh : d ≡ h) where
  sizes_as : IsOverSizes a b c d which count → IsOverSizes e f g h which count
  sizes_as over =
      subst (λ (n : ℕ). IsOverSizes n f g h which count) ae (subst (λ (n : ℕ). IsOverSizes a n g h which count) bf (subst (λ (n : ℕ). IsOverSizes a b n h which count) cg (subst (λ (n : ℕ). IsOverSizes a b c n which count) dh over)))

-- ---- what is put, by its sizes

module _ (more : List Listed) (manifest catalog : List ℕ) (bytes stems versions size : ℕ) (is_bytes : bytes ≡ length catalog) (are_stems : stems ≡ length more) (are_versions : versions ≡ count_of more) (is_size : size ≡ length manifest) where
  pub some_over : (over : Option Over) → IfSome over (λ x. IsOverSizes bytes stems versions size x.which x.count)
      → IfSome over (λ x. (put : Put) → put.manifest ≡ manifest → put.catalog ≡ catalog → IsOverPut more put x.which x.count)
  some_over None h = tt
  some_over (Some x) h = λ put m c.
      put_over more put x.which x.count
      (sizes_as x.which x.count bytes stems versions size (length put.catalog) (length more) (count_of more) (length put.manifest) (is_bytes ∙ ap length (sym c)) are_stems are_versions (is_size ∙ ap length (sym m)) h)

  pub none_over : (over : Option Over) → IfNone over ((which : Which) (count : ℕ) → IsOverSizes bytes stems versions size which count → ⊥)
      → IfNone over ((put : Put) → put.manifest ≡ manifest → put.catalog ≡ catalog → (which : Which) (count : ℕ) → IsOverPut more put which count → ⊥)
  none_over None h = λ put m c which count passes.
      h which count
      (sizes_as which count (length put.catalog) (length more) (count_of more) (length put.manifest) bytes stems versions size (ap length c ∙ sym is_bytes) (sym are_stems) (sym are_versions) (ap length m ∙ sym is_size) (over_sizes more put which count passes))
  none_over (Some x) h = tt
