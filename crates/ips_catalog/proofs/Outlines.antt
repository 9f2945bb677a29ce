-- What is kept of a text is enough: the walk answers for it what it answers for the text's value.
use Rattle.std.proofs.Common.{◌≡◌, ℕ, suc, List, [], ◌∷◌, ◌++◌, map, true, false, Option, Some, None, option_map, option_and_then, Vec, Global, Result, Ok, Err, Ordering, Less, Equal, Greater, bytes_eq, true≢false, refl, sym, ap, ◌∙◌}
use Rattle.std.specs.Prelude.{codes}
use Rattle.std.specs.Cmp.Lexicographic.{slice_cmp}
use Rattle.std.specs.Ordering.{nat_cmp, match_ordering}
use Rattle.std.specs.BTreeMap.{insert_entry}
use Rattle.std.specs.Fmt.{decimal}
use Rattle.std.proofs.lemmas.Slice.Eq.{bytes_eq-Decides}
use Rattle.serde_json.specs.Data.{Data, null, boolean, number, string, array, object, Items, no_items, item, Members, no_members, member, put}
use Rattle.serde_json.specs.Find.{get_member, as_str}
use Rattle.serde_json.specs.View.{items_of}
use Rattle.serde_json.proofs.Views.{get_member-put, get_member-put_other}
use Rattle.ips_text.specs.Reading.{◌>>=◌}
use Rattle.ips_fmri.specs.Version.{Parts}
use Rattle.ips_catalog.specs.declared.fault.CatalogFault.{CatalogFault}
use Rattle.ips_catalog.specs.Listed.{Listed}
use Rattle.ips_catalog.specs.Reading.{shaped, text_at, version_in, with_next, entry_at, versions_at, package_at, packages_at, published_at, catalog_of}
use Rattle.ips_catalog.specs.Outline.{Entry, Published, entry_of, entries_of, package_of, packages_of, published_of, outline_of, package_kept, packages_kept, entry_data, entries_data, package_data, packages_data, published_data, outlined_at}

-- ---- an entry

version_same : (keys : List (List ℕ)) (found : Option (List ℕ)) → text_at keys (entry_data (Some found)) ≡ shaped (keys ++ codes "version" ∷ []) found
unfolding text_at
version_same keys None = refl
version_same keys (Some text) = refl

text_same : (keys : List (List ℕ)) (value : Data) → text_at keys value ≡ text_at keys (entry_data (entry_of value))
unfolding text_at
text_same keys null = refl
text_same keys (boolean b) = refl
text_same keys (number n) = refl
text_same keys (string s) = refl
text_same keys (array ds) = refl
text_same keys (object ms) = sym (version_same keys (option_and_then as_str (get_member (codes "version") ms)))

entry_same : (publisher stem : List ℕ) (index : ℕ) (before : List Parts) (value : Data) → entry_at publisher stem index before value ≡ entry_at publisher stem index before (entry_data (entry_of value))
unfolding entry_at
entry_same publisher stem index before value =
    ap (λ (r : Result (List ℕ) CatalogFault). r >>= λ text. version_in stem text >>= λ version. with_next stem before version) (text_same (publisher ∷ stem ∷ decimal index ∷ []) value)

-- ---- packages

-- what goes on alike ends alike
then_same : {A : Type 0} (r : Result (List Parts) CatalogFault) (f g : List Parts → Result A CatalogFault) → ((versions : List Parts) → f versions ≡ g versions) → (r >>= f) ≡ (r >>= g)
then_same (Ok versions) f g same = same versions
then_same (Err fault) f g same = refl

entries_same : (publisher stem : List ℕ) (index : ℕ) (before : List Parts) (values : Items) → versions_at publisher stem index before values ≡ versions_at publisher stem index before (entries_data (entries_of values))
unfolding versions_at
entries_same publisher stem index before no_items = refl
entries_same publisher stem index before (item value values) =
    ap (λ (r : Result (List Parts) CatalogFault). r >>= λ versions. versions_at publisher stem (suc index) versions values) (entry_same publisher stem index before value)
    ∙ then_same (entry_at publisher stem index before (entry_data (entry_of value))) (λ versions. versions_at publisher stem (suc index) versions values) (λ versions. versions_at publisher stem (suc index) versions (entries_data (entries_of values))) (λ versions. entries_same publisher stem (suc index) versions values)

package_same : (publisher key : List ℕ) (value : Data) → package_at publisher key value ≡ package_at publisher key (package_data (package_of value))
unfolding package_at
package_same publisher key null = refl
package_same publisher key (boolean b) = refl
package_same publisher key (number n) = refl
package_same publisher key (string s) = refl
package_same publisher key (object ms) = refl
package_same publisher key (array ds) = rw (entries_same publisher key 0 [] ds) refl

packages_same : (publisher : List ℕ) (values : Members) → packages_at publisher values ≡ packages_at publisher (packages_data (packages_of values))
unfolding packages_at
packages_same publisher no_members = refl
packages_same publisher (member key value values) =
    ap (λ (r : Result Listed CatalogFault). r >>= λ listed. packages_at publisher values >>= λ packages. Ok (listed ∷ packages)) (package_same publisher key value)
    ∙ ap (λ (others : Result (List Listed) CatalogFault). package_at publisher key (package_data (package_of value)) >>= λ listed. others >>= λ packages. Ok (listed ∷ packages)) (packages_same publisher values)

published_same : (publisher : List ℕ) (value : Data) → published_at publisher (Some value) ≡ published_at publisher (Some (published_data (published_of value)))
unfolding published_at
published_same publisher null = refl
published_same publisher (boolean b) = refl
published_same publisher (number n) = refl
published_same publisher (string s) = refl
published_same publisher (array ds) = refl
published_same publisher (object ms) = packages_same publisher ms

found_same : (publisher : List ℕ) (found : Option Data) → published_at publisher found ≡ published_at publisher (option_map published_data (option_map published_of found))
found_same publisher None = refl
found_same publisher (Some value) = published_same publisher value

pub outline_same : (publisher : List ℕ) (value : Data) → catalog_of publisher value ≡ outlined_at publisher (outline_of publisher value)
unfolding catalog_of
outline_same publisher null = refl
outline_same publisher (boolean b) = refl
outline_same publisher (number n) = refl
outline_same publisher (string s) = refl
outline_same publisher (array ds) = refl
outline_same publisher (object ms) = found_same publisher (get_member publisher ms)

-- ---- what is kept while the text is read

-- the later of two equal keys counts
pub member_here : (name key : List ℕ) (value : Data) (ms : Members) → bytes_eq key name ≡ true → get_member name (put key value ms) ≡ Some value
member_here name key value ms same =
    let is : key ≡ name = (bytes_eq-Decides key name).0 same in
    ap (λ (n : List ℕ). get_member n (put key value ms)) (sym is) ∙ get_member-put key value ms

pub member_elsewhere : (name key : List ℕ) (value : Data) (ms : Members) → bytes_eq key name ≡ false → get_member name (put key value ms) ≡ get_member name ms
member_elsewhere name key value ms other =
    get_member-put_other name key value ms (λ (is : name ≡ key). absurd (true≢false (sym ((bytes_eq-Decides key name).1 (sym is)) ∙ other)))

-- entries in their order
pub entries_are : (values : List Data) → entries_of (items_of values) ≡ map entry_of values
entries_are [] = refl
entries_are (value ∷ values) = ap (λ (es : List Entry). entry_of value ∷ es) (entries_are values)

-- a package at its key
abbrev pub Kept : Type 0
Kept = List ℕ × Option (Vec Entry Global)

chosen_of : (o : Ordering) (a b c : Members) → packages_of (match_ordering o a b c) ≡ match_ordering o (packages_of a) (packages_of b) (packages_of c)
chosen_of Less a b c = refl
chosen_of Equal a b c = refl
chosen_of Greater a b c = refl

packages_put : (key : List ℕ) (value : Data) (ms : Members) → packages_of (put key value ms) ≡ insert_entry (slice_cmp nat_cmp) (packages_of ms) key (package_of value)
packages_put key value no_members = refl
packages_put key value (member k v ms) =
    chosen_of (slice_cmp nat_cmp key k) _ _ _ ∙ rw (packages_put key value ms) refl

chosen_kept : (o : Ordering) (a b c : List Kept) → packages_kept (match_ordering o a b c) ≡ match_ordering o (packages_kept a) (packages_kept b) (packages_kept c)
chosen_kept Less a b c = refl
chosen_kept Equal a b c = refl
chosen_kept Greater a b c = refl

kept_put : (key : List ℕ) (kept : Option (Vec Entry Global)) (es : List Kept) → packages_kept (insert_entry (slice_cmp nat_cmp) es key kept) ≡ insert_entry (slice_cmp nat_cmp) (packages_kept es) key (package_kept kept)
kept_put key kept [] = refl
kept_put key kept (e ∷ es) = chosen_kept (slice_cmp nat_cmp key e.0) _ _ _ ∙ rw (kept_put key kept es) refl

pub package_put : (key : List ℕ) (value : Data) (kept : Option (Vec Entry Global)) (ms : Members) (es : List Kept) → packages_of ms ≡ packages_kept es → package_of value ≡ package_kept kept
    → packages_of (put key value ms) ≡ packages_kept (insert_entry (slice_cmp nat_cmp) es key kept)
package_put key value kept ms es before is =
    packages_put key value ms ∙ rw (before, is) (sym (kept_put key kept es))

pub outlined : (publisher : List ℕ) (value : Data) (kept : Option (Option Published)) → outline_of publisher value ≡ kept → outlined_at publisher kept ≡ catalog_of publisher value
outlined publisher value kept is = ap (outlined_at publisher) (sym is) ∙ sym (outline_same publisher value)
