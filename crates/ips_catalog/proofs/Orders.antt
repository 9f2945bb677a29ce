-- The packages that a walk answers are in order.
use Rattle.std.proofs.Common.{◌≡◌, ℕ, suc, Bool, true, false, cond, List, [], ◌∷◌, map, Option, Some, None, Ok, Err, Ordering, Less, Equal, Greater, refl, sym, ap, subst, ◌∙◌, inl, inr}
use Rattle.std.specs.List.{AllByRecursion}
use Rattle.std.specs.List.Sorted.{IsStrictlySortedBy}
use Rattle.std.specs.Map.{keys_of}
use Rattle.std.specs.Cmp.{IsTotalOrder}
use Rattle.std.specs.Cmp.Lexicographic.{slice_cmp}
use Rattle.std.specs.Ordering.{nat_cmp, match_ordering, ordering_reverse, is_eq}
use Rattle.std.specs.BTreeSet.{insert_key}
use Rattle.std.specs.Fmt.{decimal}
use Rattle.serde_json.specs.Data.{Data, Items, no_items, item, Members, member}
use Rattle.serde_json.specs.Find.{as_array}
use Rattle.ips_text.specs.Reading.{◌>>=◌}
use Rattle.ips_text.proofs.Readers.{bind_ok, ok_is, ok_not_err, chosen}
use Rattle.ips_fmri.specs.Version.{Parts, version_text}
use Rattle.ips_fmri.specs.Order.{version_cmp, version_total}
use Rattle.ips_catalog.specs.declared.fault.CatalogFault.{CatalogFault}
use Rattle.ips_catalog.specs.declared.fault.CatalogFault.TheVariants.{WrongShape, Repeated}
use Rattle.ips_catalog.specs.Listed.{Listed, VersionsAscend, IsInOrder, versions_of}
use Rattle.ips_catalog.specs.Pointer.{pointer}
use Rattle.ips_catalog.specs.Stem.{is_stem}
use Rattle.ips_catalog.specs.Reading.{shaped, text_at, version_in, is_among, with_next, entry_at, versions_at, package_at, packages_at}
use Rattle.ips_catalog.specs.Outline.{package_kept, packages_kept, package_data, packages_data}
use Rattle.ips_catalog.proofs.Outlines.{Kept}

-- ---- a key put at its place

module _ {K : Type 0} {R : K → K → Ordering} (total : IsTotalOrder R) where
  all_insert : (P : K → Type 0) (ks : List K) (k : K) → AllByRecursion P ks → P k → AllByRecursion P (insert_key R ks k)
  all_insert P [] k all is = (is, tt)
  all_insert P (x ∷ xs) k all is = by (R k x) (all_insert P xs k all.1 is)
    where
      by : (o : Ordering) → AllByRecursion P (insert_key R xs k) → AllByRecursion P (match_ordering o (k ∷ x ∷ xs) (x ∷ xs) (x ∷ insert_key R xs k))
      by Less more = (is, all)
      by Equal more = all
      by Greater more = (all.0, more)

  all_above : (low x : K) (xs : List K) → R low x ≡ Less → AllByRecursion (λ y. R x y ≡ Less) xs → AllByRecursion (λ y. R low y ≡ Less) xs
  all_above low x [] less all = tt
  all_above low x (y ∷ xs) less all = (total.trans low x y less all.0, all_above low x xs less all.1)

  pub sorted_insert : (ks : List K) (k : K) → IsStrictlySortedBy R ks → IsStrictlySortedBy R (insert_key R ks k)
  unfolding IsStrictlySortedBy
  sorted_insert [] k up = (tt, tt)
  sorted_insert (x ∷ xs) k up = by (R k x) refl (sorted_insert xs k up.1)
    where
      by : (o : Ordering) → R k x ≡ o → IsStrictlySortedBy R (insert_key R xs k) → IsStrictlySortedBy R (match_ordering o (k ∷ x ∷ xs) (x ∷ xs) (x ∷ insert_key R xs k))
      by Less e more = ((e, all_above k x xs e up.0), up)
      by Equal e more = up
      by Greater e more = (all_insert (λ y. R x y ≡ Less) xs k up.0 (total.antisymm x k ∙ ap ordering_reverse e), more)

-- ---- the versions of a package

-- what was put at its place
pub next_kept : (stem : List ℕ) (before versions : List Parts) (version : Parts) → with_next stem before version ≡ Ok versions → (is_among version before ≡ false) × (insert_key version_cmp before version ≡ versions)
unfolding with_next
next_kept stem before versions version e =
    elim (chosen (is_among version before) (Err (Repeated stem (version_text version))) (Ok (insert_key version_cmp before version)) (Ok versions) e) [
      | inl w ↦ absurd (ok_not_err versions (Repeated stem (version_text version)) (sym w.1))
      | inr w ↦ (w.0, ok_is {E = CatalogFault} (insert_key version_cmp before version) versions w.1)
    ]

-- an entry that was read: the text of its version, that version, and the versions with it
pub record EntryRead (publisher stem : List ℕ) (index : ℕ) (before versions : List Parts) (entry : Data) : Type 0 where
  pub text : List ℕ
  pub version : Parts
  pub stands : text_at (publisher ∷ stem ∷ decimal index ∷ []) entry ≡ Ok text
  pub spelled : version_in stem text ≡ Ok version
  pub new : is_among version before ≡ false
  pub put : insert_key version_cmp before version ≡ versions

pub entry_read : (publisher stem : List ℕ) (index : ℕ) (before versions : List Parts) (entry : Data) → entry_at publisher stem index before entry ≡ Ok versions → EntryRead publisher stem index before versions entry
unfolding entry_at
entry_read publisher stem index before versions entry e =
    let a = bind_ok (text_at (publisher ∷ stem ∷ decimal index ∷ []) entry) (λ text. version_in stem text >>= λ version. with_next stem before version) versions e in
    let b = bind_ok (version_in stem a.0) (λ version. with_next stem before version) versions a.2 in
    let k = next_kept stem before versions b.0 b.2 in
    record { text = a.0; version = b.0; stands = a.1; spelled = b.1; new = k.0; put = k.1 }

pub versions_ascend : (publisher stem : List ℕ) (index : ℕ) (before versions : List Parts) (entries : Items) → versions_at publisher stem index before entries ≡ Ok versions → IsStrictlySortedBy version_cmp before → IsStrictlySortedBy version_cmp versions
unfolding versions_at
versions_ascend publisher stem index before versions no_items e up = subst (IsStrictlySortedBy version_cmp) (ok_is {E = CatalogFault} before versions e) up
versions_ascend publisher stem index before versions (item entry entries) e up =
    let a = bind_ok (entry_at publisher stem index before entry) (λ next. versions_at publisher stem (suc index) next entries) versions e in
    let read = entry_read publisher stem index before a.0 entry a.1 in
    versions_ascend publisher stem (suc index) a.0 versions entries a.2 (subst (IsStrictlySortedBy version_cmp) read.put (sorted_insert version_total before read.version up))

-- ---- packages

pub shaped_some : {A : Type 0} (keys : List (List ℕ)) (found : Option A) (x : A) → shaped keys found ≡ Ok x → found ≡ Some x
shaped_some keys (Some y) x e = ap (λ z. Some z) (ok_is {E = CatalogFault} y x e)
shaped_some keys None x e = absurd (ok_not_err x (WrongShape (pointer keys)) (sym e))

kept_is : (key stem : List ℕ) → cond (is_stem key) (Some key) None ≡ Some stem → (is_stem key ≡ true) × (key ≡ stem)
kept_is key stem e =
    elim (chosen (is_stem key) (Some key) None (Some stem) e) [ inl w ↦ (w.0, cc (w.1)) | inr w ↦ absurd cc ]

-- a package that was read: its key is its stem, and its versions are those of the entries that stand there
pub record PackageRead (publisher key : List ℕ) (value : Data) (listed : Listed) : Type 0 where
  pub entries : Items
  pub stem : is_stem key ≡ true
  pub named : key ≡ listed.stem
  pub stands : as_array value ≡ Some entries
  pub versions : versions_at publisher key 0 [] entries ≡ Ok listed.versions

pub package_read : (publisher key : List ℕ) (value : Data) (listed : Listed) → package_at publisher key value ≡ Ok listed → PackageRead publisher key value listed
unfolding package_at
package_read publisher key value listed e =
    let at = publisher ∷ key ∷ [] in
    let a = bind_ok (shaped at (cond (is_stem key) (Some key) None)) (λ stem. shaped at (as_array value) >>= λ entries. versions_at publisher key 0 [] entries >>= λ versions. Ok (record { stem = stem; versions = versions })) listed e in
    let b = bind_ok (shaped at (as_array value)) (λ entries. versions_at publisher key 0 [] entries >>= λ versions. Ok (record { stem = a.0; versions = versions })) listed a.2 in
    let c = bind_ok (versions_at publisher key 0 [] b.0) (λ versions. Ok (record { stem = a.0; versions = versions })) listed b.2 in
    let is = ok_is {E = CatalogFault} (record { stem = a.0; versions = c.0 }) listed c.2 in
    let kept = kept_is key a.0 (shaped_some at (cond (is_stem key) (Some key) None) a.0 a.1) in
    record {
      entries = b.0;
      stem = kept.0;
      named = kept.1 ∙ ap (λ (l : Listed). l.stem) is;
      stands = shaped_some at (as_array value) b.0 b.1;
      versions = c.1 ∙ ap (λ (l : Listed). Ok l.versions) is;
    }

-- packages that were read: the first, and the others
pub record PackagesRead (publisher key : List ℕ) (value : Data) (members : Members) (packages : List Listed) : Type 0 where
  pub first : Listed
  pub others : List Listed
  pub read : package_at publisher key value ≡ Ok first
  pub behind : packages_at publisher members ≡ Ok others
  pub are : first ∷ others ≡ packages

pub packages_read : (publisher key : List ℕ) (value : Data) (members : Members) (packages : List Listed) → packages_at publisher (member key value members) ≡ Ok packages → PackagesRead publisher key value members packages
unfolding packages_at
packages_read publisher key value members packages e =
    let a = bind_ok (package_at publisher key value) (λ listed. packages_at publisher members >>= λ others. Ok (listed ∷ others)) packages e in
    let b = bind_ok (packages_at publisher members) (λ others. Ok (a.0 ∷ others)) packages a.2 in
    record { first = a.0; others = b.0; read = a.1; behind = b.1; are = ok_is {E = CatalogFault} (a.0 ∷ b.0) packages b.2 }

stems_are : (publisher : List ℕ) (es : List Kept) (packages : List Listed) → packages_at publisher (packages_data (packages_kept es)) ≡ Ok packages → keys_of es ≡ map (λ listed. listed.stem) packages
unfolding packages_at
stems_are publisher [] packages e = ap (map (λ (l : Listed). l.stem)) (ok_is {E = CatalogFault} [] packages e)
stems_are publisher (e ∷ es) packages h =
    let r = packages_read publisher e.0 (package_data (package_kept e.1)) (packages_data (packages_kept es)) packages h in
    let p = package_read publisher e.0 (package_data (package_kept e.1)) r.first r.read in
    ap (λ (s : List ℕ). s ∷ keys_of es) p.named ∙ ap (λ (ss : List (List ℕ)). r.first.stem ∷ ss) (stems_are publisher es r.others r.behind) ∙ ap (map (λ (l : Listed). l.stem)) r.are

package_ascends : (publisher key : List ℕ) (value : Data) (listed : Listed) → package_at publisher key value ≡ Ok listed → IsStrictlySortedBy version_cmp listed.versions
unfolding IsStrictlySortedBy
package_ascends publisher key value listed e = let p = package_read publisher key value listed e in versions_ascend publisher key 0 [] listed.versions p.entries p.versions tt

all_ascend : (publisher : List ℕ) (es : List Kept) (packages : List Listed) → packages_at publisher (packages_data (packages_kept es)) ≡ Ok packages → VersionsAscend packages
unfolding packages_at
all_ascend publisher [] packages e = subst VersionsAscend (ok_is {E = CatalogFault} [] packages e) tt
all_ascend publisher (e ∷ es) packages h =
    let r = packages_read publisher e.0 (package_data (package_kept e.1)) (packages_data (packages_kept es)) packages h in
    subst VersionsAscend r.are (package_ascends publisher e.0 (package_data (package_kept e.1)) r.first r.read, all_ascend publisher es r.others r.behind)

pub in_order : (publisher : List ℕ) (es : List Kept) (packages : List Listed) → IsStrictlySortedBy (slice_cmp nat_cmp) (keys_of es) → packages_at publisher (packages_data (packages_kept es)) ≡ Ok packages → IsInOrder packages
in_order publisher es packages up e = record {
  stems = subst (IsStrictlySortedBy (slice_cmp nat_cmp)) (stems_are publisher es packages e) up;
  versions = all_ascend publisher es packages e;
}

pub nothing_in_order : IsInOrder []
unfolding IsStrictlySortedBy
nothing_in_order = record { stems = tt; versions = tt }

-- so are the versions of each stem
pub versions_in_order : (catalog : List Listed) (stem : List ℕ) → VersionsAscend catalog → IsStrictlySortedBy version_cmp (versions_of catalog stem)
unfolding IsStrictlySortedBy
versions_in_order [] stem up = tt
versions_in_order (listed ∷ catalog) stem up = by (is_eq (slice_cmp nat_cmp listed.stem stem)) (versions_in_order catalog stem up.1)
  where
    by : (b : Bool) → IsStrictlySortedBy version_cmp (versions_of catalog stem) → IsStrictlySortedBy version_cmp (cond b listed.versions (versions_of catalog stem))
    by true more = up.0
    by false more = more
