-- No two records of a state have one path, so that they ascend once they are sorted.
use Rattle.std.proofs.Common.{◌≡◌, ℕ, ◌+◌, ◌<◌, Bool, true, false, ◌&&◌, ◌==◌, not, List, [], ◌∷◌, ◌++◌, length, map, get_or, Option, Some, None, refl, sym, ◌∙◌, ap, subst, arith}
use Rattle.std.specs.Prelude.{codes}
use Rattle.std.specs.declared.cmp.Ordering.{Ordering}
use Rattle.std.specs.declared.cmp.Ordering.TheVariants.{Less, Equal, Greater}
use Rattle.std.specs.Ordering.{nat_cmp, is_eq, is_lt, eq_by_cmp, ordering_reverse}
use Rattle.std.specs.Cmp.Lexicographic.{slice_cmp}
use Rattle.std.specs.FinMap.{slice_cmp-IsAntisymmetric, nat_cmp-IsAntisymmetric}
use Rattle.std.specs.List.{AllByRecursion, IsDistinct, list_all}
use Rattle.std.specs.List.Sorted.{IsPermutation, IsSortedBy, IsStrictlySortedBy}
use Rattle.std.specs.Str.{bytes_eq}
use Rattle.std.proofs.lemmas.Bool.{and_parts, false≢true}
use Rattle.std.proofs.lemmas.Cmp.{nat_list_cmp_total, eq_by_cmp_equiv}
use Rattle.std.proofs.lemmas.List.{append_cancel_left, get_or-map, length-map}
use Rattle.std.proofs.lemmas.List.Sorted.{IsPermutation-map}
use Rattle.std.proofs.lemmas.Map.Keys.{apart_from_distinct, IsDistinct-IsPermutation, sorted_from_all_adjacent}
use Rattle.std.proofs.lemmas.Simd.{map-map}
use Rattle.std.proofs.lemmas.Slice.Eq.{bytes_eq-Decides}
use Rattle.ips_text.specs.Quote.{quoted}
use Rattle.ips_text.proofs.Lists.{all_append}
use Rattle.ips_text.proofs.Truths.{not_true}
use Rattle.ips_fmri.specs.Name.{IsStem}
use Rattle.ips_index.specs.Rows.{IndexedValue}
use Rattle.ips_records.proofs.WordForms.{word_one}
use Rattle.ips_state.specs.State.{Ascend, Installed, Recorded}
use Rattle.ips_state.specs.Form.{IsPackage}
use Rattle.ips_state.specs.Lawful.{ArePackages, Differ}
use Rattle.ips_state.specs.Records.{avoid_path, freeze_path, history_path, image_path, index_path, installed_path, manifest_path, mediators_path, package_path, package_place}
use Rattle.ips_packages.proofs.Records.{stem_is_word}
use Rattle.ips_entries.specs.declared.part.Place.{Place}
use Rattle.ips_entries.specs.Part.{Owned, common_parts, entry_at, index_parts, numbered, owned, package_parts, parts_of}

abbrev cmp_paths : List ℕ → List ℕ → Ordering
cmp_paths a b = slice_cmp nat_cmp a b

-- ---- paths that differ in the front

differ_by : (x y : List ℕ) → bytes_eq x y ≡ false → x ≡ y → ⊥
differ_by x y off e = false≢true (sym off ∙ (bytes_eq-Decides x y).1 e)

-- the path isn't among these
abbrev Without : List ℕ → List (List ℕ) → Type 0
Without path others = AllByRecursion (λ other. path ≡ other → ⊥) others

without_front : (x : List ℕ) (front rest : List (List ℕ)) → list_all (λ y. not (bytes_eq x y)) front ≡ true → Without x rest → Without x (front ++ rest)
without_front x [] rest test off = off
without_front x (y ∷ front) rest test off =
    let h = and_parts (not (bytes_eq x y)) (list_all (λ y. not (bytes_eq x y)) front) test in
    (differ_by x y (not_true (bytes_eq x y) h.0), without_front x front rest h.1 off)

-- no two of the paths are equal
abbrev are_apart : List (List ℕ) → Bool
are_apart [] = true
are_apart (x ∷ xs) = list_all (λ y. not (bytes_eq x y)) xs && are_apart xs

front_differs : (front rest : List (List ℕ)) → are_apart front ≡ true → AllByRecursion (λ x. Without x rest) front → Differ rest → Differ (front ++ rest)
front_differs [] rest test off differ = differ
front_differs (x ∷ front) rest test off differ =
    let h = and_parts (list_all (λ y. not (bytes_eq x y)) front) (are_apart front) test in
    (without_front x front rest h.0 off.0, front_differs front rest h.1 off.1 differ)

-- ---- places of packages

-- no package has its place there
abbrev IsOff : Bool → List ℕ → Type 0
IsOff first path = (stem : List ℕ) → path ≡ package_place first stem → ⊥

abbrev paths_in : List Owned → List (List ℕ)
paths_in parts = map (λ (s : Owned). s.0) parts

off_packages : (path : List ℕ) (first : Bool) (n : ℕ) (packages : List Installed) → IsOff first path → Without path (paths_in (numbered first n packages))
off_packages path first n [] off = tt
off_packages path first n (p ∷ packages) off = (off p.stem, off_packages path first (n + 1) packages off)

all_off : (first : Bool) (n : ℕ) (packages : List Installed) (front : List (List ℕ)) → AllByRecursion (IsOff first) front → AllByRecursion (λ x. Without x (paths_in (numbered first n packages))) front
all_off first n packages [] off = tt
all_off first n packages (path ∷ front) off = (off_packages path first n packages off.0, all_off first n packages front off.1)

pub place_one : (first : Bool) (s t : List ℕ) → IsStem false s → IsStem false t → package_place first s ≡ package_place first t → s ≡ t
place_one true s t hs ht e = word_one s t (stem_is_word s hs) (stem_is_word t ht) (append_cancel_left (codes "var/pkg/manifests/") (quoted s) (quoted t) e)
place_one false s t hs ht e = word_one s t (stem_is_word s hs) (stem_is_word t ht) (append_cancel_left (codes "var/pkg/packages/") (quoted s) (quoted t) e)

not_before_itself : (x y : List ℕ) → cmp_paths x y ≡ Less → x ≡ y → ⊥
not_before_itself x y less e = false≢true (sym (ap is_eq less) ∙ ap (λ (z : List ℕ). is_eq (cmp_paths x z)) (sym e) ∙ (eq_by_cmp_equiv nat_list_cmp_total).refl x)

abbrev stems_of : List Installed → List (List ℕ)
stems_of packages = map (λ (p : Installed). p.stem) packages

not_again : (first : Bool) (n : ℕ) (stem : List ℕ) (packages : List Installed) → IsStem false stem → AllByRecursion IsPackage packages → AllByRecursion (λ y. cmp_paths stem y ≡ Less) (stems_of packages)
    → Without (package_place first stem) (paths_in (numbered first n packages))
not_again first n stem [] h all below = tt
not_again first n stem (p ∷ packages) h all below = (λ e. not_before_itself stem p.stem below.0 (place_one first stem p.stem h all.0.stem e), not_again first (n + 1) stem packages h all.1 below.1)

packages_differ : (first : Bool) (n : ℕ) (packages : List Installed) → AllByRecursion IsPackage packages → Ascend (stems_of packages) → Differ (paths_in (numbered first n packages))
unfolding IsStrictlySortedBy
packages_differ first n [] all order = tt
packages_differ first n (p ∷ packages) all order = (not_again first (n + 1) p.stem packages all.0.stem all.1 order.0, packages_differ first (n + 1) packages all.1 order.1)

-- ---- all paths

abbrev common_paths : List (List ℕ)
common_paths = image_path ∷ avoid_path ∷ freeze_path ∷ mediators_path ∷ history_path ∷ []

common_off : (first : Bool) → AllByRecursion (IsOff first) common_paths
common_off true = (λ s. differ_by image_path (manifest_path s) refl, (λ s. differ_by avoid_path (manifest_path s) refl, (λ s. differ_by freeze_path (manifest_path s) refl, (λ s. differ_by mediators_path (manifest_path s) refl, (λ s. differ_by history_path (manifest_path s) refl, tt)))))
common_off false = (λ s. differ_by image_path (package_path s) refl, (λ s. differ_by avoid_path (package_path s) refl, (λ s. differ_by freeze_path (package_path s) refl, (λ s. differ_by mediators_path (package_path s) refl, (λ s. differ_by history_path (package_path s) refl, tt)))))

index_off : (first : Bool) → IsOff first index_path
index_off true s = differ_by index_path (manifest_path s) refl
index_off false s = differ_by index_path (package_path s) refl

installed_off : IsOff true installed_path
installed_off s = differ_by installed_path (manifest_path s) refl

-- the paths in front of those of packages, and those of packages
behind_fronts : (first : Bool) (more : List (List ℕ)) (packages : List Installed) → ArePackages packages → are_apart (common_paths ++ more) ≡ true → AllByRecursion (IsOff first) more
    → Differ ((common_paths ++ more) ++ paths_in (numbered first 0 packages))
behind_fronts first more packages h test off =
    front_differs (common_paths ++ more) (paths_in (numbered first 0 packages)) test (all_off first 0 packages (common_paths ++ more) (all_append (IsOff first) common_paths more (common_off first) off)) (packages_differ first 0 packages h.each h.order)

all_differ : (first : Bool) (index : Option (List IndexedValue)) (packages : List Installed) → ArePackages packages → Differ (paths_in ((common_parts ++ index_parts index) ++ package_parts first packages))
all_differ true (Some rows) packages h = behind_fronts true (index_path ∷ installed_path ∷ []) packages h refl (index_off true, (installed_off, tt))
all_differ true None packages h = behind_fronts true (installed_path ∷ []) packages h refl (installed_off, tt)
all_differ false (Some rows) packages h = behind_fronts false (index_path ∷ []) packages h refl (index_off false, tt)
all_differ false None packages h = behind_fronts false [] packages h refl tt

-- ---- in order

told_apart : (x y : List ℕ) → (x ≡ y → ⊥) → eq_by_cmp cmp_paths x y ≡ false
told_apart x y off = go (cmp_paths x y) refl
  where
    go : (o : Ordering) → cmp_paths x y ≡ o → is_eq o ≡ false
    go Less e = refl
    go Equal e = absurd (off (slice_cmp-IsAntisymmetric nat_cmp-IsAntisymmetric x y e))
    go Greater e = refl

distinct_from : (texts : List (List ℕ)) → Differ texts → IsDistinct (eq_by_cmp cmp_paths) texts
unfolding IsDistinct
distinct_from [] h = tt
distinct_from (x ∷ texts) h = (each texts h.0, distinct_from texts h.1)
  where
    each : (others : List (List ℕ)) → Without x others → AllByRecursion (λ y. eq_by_cmp cmp_paths x y ≡ false) others
    each [] off = tt
    each (y ∷ others) off = (told_apart x y off.0, each others off.1)

-- of two paths that are apart, the first is before the second where the second isn't before the first
rises_to : (a b : List ℕ) → is_lt (cmp_paths b a) ≡ false → eq_by_cmp cmp_paths a b ≡ false → cmp_paths a b ≡ Less
rises_to a b above apart = go (cmp_paths b a) refl above
  where
    go : (o : Ordering) → cmp_paths b a ≡ o → is_lt o ≡ false → cmp_paths a b ≡ Less
    go Less e h = absurd (false≢true (sym h))
    go Equal e h = let turned : cmp_paths a b ≡ Equal = nat_list_cmp_total.antisymm a b ∙ ap ordering_reverse e in absurd (false≢true (sym apart ∙ ap is_eq turned))
    go Greater e h = nat_list_cmp_total.antisymm a b ∙ ap ordering_reverse e

abbrev pub before_place : Place → Place → Bool
before_place a b = is_lt (cmp_paths a.path.bytes b.path.bytes)

abbrev paths_at : List Place → List (List ℕ)
paths_at places = map (λ (p : Place). p.path.bytes) places

paths_ascend : (places : List Place) → IsSortedBy before_place places → IsDistinct (eq_by_cmp cmp_paths) (paths_at places) → Ascend (paths_at places)
unfolding IsStrictlySortedBy
paths_ascend [] up apart = tt
paths_ascend (p ∷ places) up apart = sorted_from_all_adjacent nat_list_cmp_total (paths_at (p ∷ places)) p.path.bytes (λ k lt.
    let within : k + 1 < length (p ∷ places) = omega (arith, lt, length-map (p ∷ places) (λ (q : Place). q.path.bytes)) in
    let here : k < length (p ∷ places) = omega (arith, within) in
    let first = get_or-map (λ (q : Place). q.path.bytes) (p ∷ places) k p p.path.bytes here in
    let second = get_or-map (λ (q : Place). q.path.bytes) (p ∷ places) (k + 1) p p.path.bytes within in
    let other = apart_from_distinct (eq_by_cmp cmp_paths) (paths_at (p ∷ places)) k (k + 1) p.path.bytes apart (omega arith) lt in
    (λ j. cmp_paths (first j) (second j)) ∙ rises_to (get_or (p ∷ places) k p).path.bytes (get_or (p ∷ places) (k + 1) p).path.bytes (up k p (omega arith) within) ((λ j. eq_by_cmp cmp_paths (sym first j) (sym second j)) ∙ other))

pub entries_ascend : (r : Recorded) (old new : List Place) → ArePackages r.installed → map owned old ≡ parts_of r → IsPermutation old new → IsSortedBy before_place new → Ascend (map (λ (e : List ℕ × List ℕ). e.0) (map (entry_at r) new))
entries_ascend r old new h all moved up =
    let paths = sym (map-map (λ (s : Owned). s.0) owned old) ∙ ap paths_in all in
    let distinct = subst (IsDistinct (eq_by_cmp cmp_paths)) (sym paths) (distinct_from (paths_in (parts_of r)) (all_differ (r.format == 1) r.index r.installed h)) in
    let apart = IsDistinct-IsPermutation (eq_by_cmp cmp_paths) (eq_by_cmp_equiv nat_list_cmp_total).symm (paths_at old) (paths_at new) (IsPermutation-map (λ (p : Place). p.path.bytes) old new moved) distinct in
    subst Ascend (sym (map-map (λ (e : List ℕ × List ℕ). e.0) (entry_at r) new)) (paths_ascend new up apart)
