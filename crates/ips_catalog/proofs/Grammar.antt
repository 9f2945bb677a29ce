-- The walk answers a catalog exactly where the JSON value holds it.
use Rattle.std.proofs.Common.{◌≡◌, ℕ, suc, ◌-◌, length, Bool, true, false, cond, List, [], ◌∷◌, ◌++◌, Option, Some, None, Result, Ok, Err, IfOk, option_and_then, refl, sym, ap, subst, ◌∙◌, append-nil}
use Rattle.std.specs.Prelude.{codes}
use Rattle.std.specs.List.Sorted.{IsStrictlySortedBy, IsPermutation}
use Rattle.std.specs.Str.{IsUtf8, is_utf8}
use Rattle.std.specs.Fmt.{decimal}
use Rattle.std.specs.BTreeSet.{insert_key}
use Rattle.std.proofs.lemmas.Str.{IsUtf8-from_is_utf8, is_utf8-from_IsUtf8}
use Rattle.std.proofs.lemmas.List.Sorted.{IsPermutation-refl, IsPermutation-sym, IsPermutation-trans}
use Rattle.serde_json.specs.Data.{Data, null, boolean, number, string, array, object, Items, no_items, item, Members, no_members, member}
use Rattle.serde_json.specs.Read.{read}
use Rattle.serde_json.specs.Find.{get_member, as_str, as_array}
use Rattle.ips_text.specs.declared.refusal.Stop.{Stop}
use Rattle.ips_text.specs.declared.refusal.Or.{Or}
use Rattle.ips_text.specs.Reading.{◌>>=◌, Gives}
use Rattle.ips_text.proofs.Readers.{bind_ok, ok_is, ok_not_err}
use Rattle.ips_fmri.specs.declared.fault.Part.{Part}
use Rattle.ips_fmri.specs.Version.{Parts, IsVersion, version_text}
use Rattle.ips_fmri.specs.Name.{IsStem}
use Rattle.ips_fmri.specs.Order.{version_cmp, version_total}
use Rattle.ips_fmri.specs.Reading.{read_version, place_of, placed, fault_of}
use Rattle.ips_fmri.proofs.Versions.{judges_version}
use Rattle.ips_catalog.specs.declared.fault.CatalogFault.{CatalogFault}
use Rattle.ips_catalog.specs.declared.fault.CatalogFault.TheVariants.{NotJson, WrongShape, BadVersion}
use Rattle.ips_catalog.specs.Listed.{Listed}
use Rattle.ips_catalog.specs.Pointer.{pointer}
use Rattle.ips_catalog.specs.Reading.{shaped, text_at, or_bad, version_in, with_next, is_among, entry_at, versions_at, package_at, packages_at, published_at, catalog_of, json_value, catalog_of_json, read_catalog}
use Rattle.ips_catalog.specs.Catalog.{IsEntry, AreEntries, HasVersions, HasPackages, IsPublished, HoldsCatalog, IsJson, IsCatalogText}
use Rattle.ips_catalog.proofs.StemKeys.{stem_is, stem_tested}
use Rattle.ips_catalog.proofs.Ascending.{ascending_one, put_before, none_before}
use Rattle.ips_catalog.proofs.Orders.{sorted_insert, shaped_some, entry_read, versions_ascend, package_read, packages_read}

abbrev Walked : Type 0
Walked = Result (List Listed) CatalogFault

wrong : {A G : Type 0} (keys : List (List ℕ)) (x : A) → Err (WrongShape (pointer keys)) ≡ Ok x → G
wrong keys x e = absurd (ok_not_err x (WrongShape (pointer keys)) (sym e))

-- ---- an entry

spelled_is : (stem text : List ℕ) (v : Parts) (r : Result Parts (Stop Part)) → read_version text ≡ r → or_bad stem (placed text r) ≡ Ok v → IsVersion v × (text ≡ version_text v)
spelled_is stem text v (Ok w) is e = subst (λ (x : Parts). IsVersion x × (text ≡ version_text x)) (ok_is {E = CatalogFault} w v e) (judges_version.found text w is)
spelled_is stem text v (Err s) is e = absurd (ok_not_err v (BadVersion stem (place_of (fault_of s.kind (length text - s.left)))) (sym e))

spelled : (stem text : List ℕ) (v : Parts) → version_in stem text ≡ Ok v → IsVersion v × (text ≡ version_text v)
unfolding version_in
spelled stem text v e = spelled_is stem text v (read_version text) refl e

spells : (stem : List ℕ) (v : Parts) → IsVersion v → version_in stem (version_text v) ≡ Ok v
unfolding version_in
spells stem v is = ap (λ (r : Result Parts (Stop Part)). or_bad stem (placed (version_text v) r)) (judges_version.only (version_text v) v (is, refl))

text_is : (found : Option Data) (text : List ℕ) → option_and_then as_str found ≡ Some text → found ≡ Some (string text)
text_is None text e = absurd cc
text_is (Some null) text e = absurd cc
text_is (Some (boolean b)) text e = absurd cc
text_is (Some (number n)) text e = absurd cc
text_is (Some (string s)) text e = cc
text_is (Some (array ds)) text e = absurd cc
text_is (Some (object ms)) text e = absurd cc

entry_is : (keys : List (List ℕ)) (stem : List ℕ) (entry : Data) (text : List ℕ) (v : Parts) → text_at keys entry ≡ Ok text → version_in stem text ≡ Ok v → IsEntry entry v
unfolding text_at
entry_is keys stem null text v e s = wrong keys text e
entry_is keys stem (boolean b) text v e s = wrong keys text e
entry_is keys stem (number n) text v e s = wrong keys text e
entry_is keys stem (string c) text v e s = wrong keys text e
entry_is keys stem (array ds) text v e s = wrong keys text e
entry_is keys stem (object ms) text v e s =
    let found = text_is (get_member (codes "version") ms) text (shaped_some (keys ++ codes "version" ∷ []) (option_and_then as_str (get_member (codes "version") ms)) text e) in
    let w = spelled stem text v s in
    (w.0, found ∙ ap (λ (t : List ℕ). Some (string t)) w.1)

text_stands : (keys : List (List ℕ)) (entry : Data) (v : Parts) → IsEntry entry v → (IsVersion v) × (text_at keys entry ≡ Ok (version_text v))
unfolding text_at
text_stands keys null v h = absurd h
text_stands keys (boolean b) v h = absurd h
text_stands keys (number n) v h = absurd h
text_stands keys (string s) v h = absurd h
text_stands keys (array ds) v h = absurd h
text_stands keys (object ms) v h = (h.0, ap (λ (found : Option Data). shaped (keys ++ codes "version" ∷ []) (option_and_then as_str found)) h.1)

next_put : (stem : List ℕ) (before : List Parts) (v : Parts) → is_among v before ≡ false → with_next stem before v ≡ Ok (insert_key version_cmp before v)
unfolding with_next
next_put stem before v new = rw new refl

entry_put : (publisher stem : List ℕ) (index : ℕ) (before : List Parts) (entry : Data) (v : Parts) → IsEntry entry v → is_among v before ≡ false → entry_at publisher stem index before entry ≡ Ok (insert_key version_cmp before v)
unfolding entry_at
entry_put publisher stem index before entry v is new =
    let keys = publisher ∷ stem ∷ decimal index ∷ [] in
    let t = text_stands keys entry v is in
    ap (λ (r : Result (List ℕ) CatalogFault). r >>= λ text. version_in stem text >>= λ version. with_next stem before version) t.1
    ∙ ap (λ (r : Result Parts CatalogFault). r >>= λ version. with_next stem before version) (spells stem v t.0)
    ∙ next_put stem before v new

-- ---- entries

entries_are : (publisher stem : List ℕ) (index : ℕ) (before versions : List Parts) (entries : Items) → versions_at publisher stem index before entries ≡ Ok versions
    → (written : List Parts) × AreEntries entries written × IsPermutation (before ++ written) versions
unfolding versions_at
entries_are publisher stem index before versions no_items e =
    ([], tt, subst (IsPermutation (before ++ [])) (append-nil before ∙ ok_is {E = CatalogFault} before versions e) (IsPermutation-refl (before ++ [])))
entries_are publisher stem index before versions (item entry entries) e =
    let a = bind_ok (entry_at publisher stem index before entry) (λ next. versions_at publisher stem (suc index) next entries) versions e in
    let r = entry_read publisher stem index before a.0 entry a.1 in
    let more = entries_are publisher stem (suc index) a.0 versions entries a.2 in
    let v = r.version in
    let moved = subst (λ (next : List Parts). IsPermutation (before ++ v ∷ more.0) (next ++ more.0)) r.put (put_before version_total before v more.0 r.new) in
    (v ∷ more.0, (entry_is (publisher ∷ stem ∷ decimal index ∷ []) stem entry r.text v r.stands r.spelled, more.1), IsPermutation-trans (before ++ v ∷ more.0) (a.0 ++ more.0) versions moved more.2)

entries_read : (publisher stem : List ℕ) (index : ℕ) (before versions : List Parts) (entries : Items) (written : List Parts) → AreEntries entries written → IsStrictlySortedBy version_cmp before → IsStrictlySortedBy version_cmp versions
    → IsPermutation (before ++ written) versions → versions_at publisher stem index before entries ≡ Ok versions
unfolding versions_at
entries_read publisher stem index before versions no_items [] are up_b up_v moved =
    ap (λ (vs : List Parts). Ok vs) (ascending_one version_total before versions up_b up_v (subst (λ (vs : List Parts). IsPermutation vs versions) (append-nil before) moved))
entries_read publisher stem index before versions no_items (v ∷ written) are up_b up_v moved = absurd are
entries_read publisher stem index before versions (item entry entries) [] are up_b up_v moved = absurd are
entries_read publisher stem index before versions (item entry entries) (v ∷ written) are up_b up_v moved =
    let new = none_before version_total before v written versions up_v moved in
    let next = insert_key version_cmp before v in
    let put = put_before version_total before v written new in
    ap (λ (r : Result (List Parts) CatalogFault). r >>= λ vs. versions_at publisher stem (suc index) vs entries) (entry_put publisher stem index before entry v are.0 new)
    ∙ entries_read publisher stem (suc index) next versions entries written are.1 (sorted_insert version_total before v up_b) up_v (IsPermutation-trans (next ++ written) (before ++ v ∷ written) versions (IsPermutation-sym (before ++ v ∷ written) (next ++ written) put) moved)

-- ---- packages

versions_are : (publisher key : List ℕ) (value : Data) (entries : Items) (versions : List Parts) → as_array value ≡ Some entries → versions_at publisher key 0 [] entries ≡ Ok versions → HasVersions value versions
unfolding IsStrictlySortedBy
versions_are publisher key null entries versions a e = absurd cc
versions_are publisher key (boolean b) entries versions a e = absurd cc
versions_are publisher key (number n) entries versions a e = absurd cc
versions_are publisher key (string s) entries versions a e = absurd cc
versions_are publisher key (object ms) entries versions a e = absurd cc
versions_are publisher key (array ds) entries versions a e =
    let same : ds ≡ entries = cc in
    let read = subst (λ (es : Items). versions_at publisher key 0 [] es ≡ Ok versions) (sym same) e in
    let w = entries_are publisher key 0 [] versions ds read in
    (versions_ascend publisher key 0 [] versions ds read tt, (w.0, w.2, w.1))

versions_read : (publisher key : List ℕ) (value : Data) (versions : List Parts) → HasVersions value versions → (entries : Items) × (as_array value ≡ Some entries) × (versions_at publisher key 0 [] entries ≡ Ok versions)
unfolding IsStrictlySortedBy
versions_read publisher key null versions h = absurd h
versions_read publisher key (boolean b) versions h = absurd h
versions_read publisher key (number n) versions h = absurd h
versions_read publisher key (string s) versions h = absurd h
versions_read publisher key (object ms) versions h = absurd h
versions_read publisher key (array ds) versions h = (ds, refl, entries_read publisher key 0 [] versions ds h.1.0 h.1.2 tt h.0 h.1.1)

package_put : (publisher key : List ℕ) (value : Data) (listed : Listed) → key ≡ listed.stem → IsStem false key → HasVersions value listed.versions → package_at publisher key value ≡ Ok listed
unfolding package_at
package_put publisher key value listed named is h =
    let at = publisher ∷ key ∷ [] in
    let r = versions_read publisher key value listed.versions h in
    ap (λ (b : Bool). shaped at (cond b (Some key) None) >>= λ stem. shaped at (as_array value) >>= λ entries. versions_at publisher key 0 [] entries >>= λ versions. Ok (record { stem = stem; versions = versions })) (stem_tested key is)
    ∙ ap (λ (found : Option Items). shaped at found >>= λ entries. versions_at publisher key 0 [] entries >>= λ versions. Ok (record { stem = key; versions = versions })) r.1
    ∙ ap (λ (vs : Result (List Parts) CatalogFault). vs >>= λ versions. Ok (record { stem = key; versions = versions })) r.2
    ∙ ap (λ (s : List ℕ). Ok (record { stem = s; versions = listed.versions })) named

packages_are : (publisher : List ℕ) (members : Members) (packages : List Listed) → packages_at publisher members ≡ Ok packages → HasPackages members packages
unfolding packages_at
packages_are publisher no_members packages e = subst (HasPackages no_members) (ok_is {E = CatalogFault} [] packages e) tt
packages_are publisher (member key value members) packages e =
    let r = packages_read publisher key value members packages e in
    let p = package_read publisher key value r.first r.read in
    subst (HasPackages (member key value members)) r.are (p.named, stem_is key p.stem, versions_are publisher key value p.entries r.first.versions p.stands p.versions, packages_are publisher members r.others r.behind)

packages_put : (publisher : List ℕ) (members : Members) (packages : List Listed) → HasPackages members packages → packages_at publisher members ≡ Ok packages
unfolding packages_at
packages_put publisher no_members [] h = refl
packages_put publisher no_members (listed ∷ packages) h = absurd h
packages_put publisher (member key value others) [] h = absurd h
packages_put publisher (member key value members) (listed ∷ packages) h =
    ap (λ (r : Result Listed CatalogFault). r >>= λ first. packages_at publisher members >>= λ others. Ok (first ∷ others)) (package_put publisher key value listed h.0 h.1 h.2)
    ∙ ap (λ (r : Walked). r >>= λ others. Ok (listed ∷ others)) (packages_put publisher members packages h.3)

-- ---- the catalog

published_is : (publisher : List ℕ) (found : Option Data) (catalog : List Listed) → published_at publisher found ≡ Ok catalog → IsPublished found catalog
unfolding published_at
published_is publisher None catalog e = sym (ok_is {E = CatalogFault} [] catalog e)
published_is publisher (Some null) catalog e = wrong (publisher ∷ []) catalog e
published_is publisher (Some (boolean b)) catalog e = wrong (publisher ∷ []) catalog e
published_is publisher (Some (number n)) catalog e = wrong (publisher ∷ []) catalog e
published_is publisher (Some (string s)) catalog e = wrong (publisher ∷ []) catalog e
published_is publisher (Some (array ds)) catalog e = wrong (publisher ∷ []) catalog e
published_is publisher (Some (object ms)) catalog e = packages_are publisher ms catalog e

published_put : (publisher : List ℕ) (found : Option Data) (catalog : List Listed) → IsPublished found catalog → published_at publisher found ≡ Ok catalog
unfolding published_at
published_put publisher None catalog h = ap (λ (c : List Listed). Ok c) (sym h)
published_put publisher (Some null) catalog h = absurd h
published_put publisher (Some (boolean b)) catalog h = absurd h
published_put publisher (Some (number n)) catalog h = absurd h
published_put publisher (Some (string s)) catalog h = absurd h
published_put publisher (Some (array ds)) catalog h = absurd h
published_put publisher (Some (object ms)) catalog h = packages_put publisher ms catalog h

holds : (publisher : List ℕ) (value : Data) (catalog : List Listed) → catalog_of publisher value ≡ Ok catalog → HoldsCatalog publisher value catalog
unfolding catalog_of
holds publisher null catalog e = wrong [] catalog e
holds publisher (boolean b) catalog e = wrong [] catalog e
holds publisher (number n) catalog e = wrong [] catalog e
holds publisher (string s) catalog e = wrong [] catalog e
holds publisher (array ds) catalog e = wrong [] catalog e
holds publisher (object ms) catalog e = published_is publisher (get_member publisher ms) catalog e

held : (publisher : List ℕ) (value : Data) (catalog : List Listed) → HoldsCatalog publisher value catalog → catalog_of publisher value ≡ Ok catalog
unfolding catalog_of
held publisher null catalog h = absurd h
held publisher (boolean b) catalog h = absurd h
held publisher (number n) catalog h = absurd h
held publisher (string s) catalog h = absurd h
held publisher (array ds) catalog h = absurd h
held publisher (object ms) catalog h = published_put publisher (get_member publisher ms) catalog h

-- ---- the text

pub read_value : (publisher bytes : List ℕ) (value : Data) → IsJson bytes value → read_catalog publisher bytes ≡ catalog_of publisher value
unfolding read_catalog json_value
read_value publisher bytes value json =
    ap (λ (b : Bool). catalog_of_json publisher (cond b (read bytes) None)) (is_utf8-from_IsUtf8 bytes json.utf8) ∙ ap (catalog_of_json publisher) json.read

nothing_read : (bytes : List ℕ) (b : Bool) → is_utf8 bytes ≡ b → (IsUtf8 bytes → read bytes ≡ None) → cond b (read bytes) None ≡ None
nothing_read bytes true e none = none (IsUtf8-from_is_utf8 bytes e)
nothing_read bytes false e none = refl

pub read_nothing : (publisher bytes : List ℕ) → (IsUtf8 bytes → read bytes ≡ None) → read_catalog publisher bytes ≡ Err NotJson
unfolding read_catalog json_value
read_nothing publisher bytes none = ap (catalog_of_json publisher) (nothing_read bytes (is_utf8 bytes) refl none)

pub text_found : (publisher bytes : List ℕ) (value : Data) (r : Result (List Listed) (Or CatalogFault)) → IsJson bytes value → Gives (λ c. c) r (catalog_of publisher value) → IfOk r (λ catalog. IsCatalogText publisher bytes catalog)
text_found publisher bytes value (Ok catalog) json h = (value, json, holds publisher value catalog h)
text_found publisher bytes value (Err e) json h = tt

pub text_only : (publisher bytes : List ℕ) (r : Result (List Listed) (Or CatalogFault)) → Gives (λ c. c) r (read_catalog publisher bytes) → (catalog : List Listed) → IsCatalogText publisher bytes catalog → Gives (λ c. c) r (Ok catalog)
text_only publisher bytes r h catalog text = subst (Gives (λ (c : List Listed). c) r) (read_value publisher bytes text.0 text.1 ∙ held publisher text.0 catalog text.2) h
