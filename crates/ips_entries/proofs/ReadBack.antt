-- The records of a state read back.
use Rattle.std.proofs.Common.{◌≡◌, ◌⊎◌, inl, inr, ℕ, Bool, true, false, ◌||◌, ◌&&◌, ◌==◌, IsTrue, List, [], ◌∷◌, ◌++◌, map, Option, Some, None, is_some, refl, sym, ◌∙◌, ap, ap₂, subst}
use Rattle.std.specs.List.{AllByRecursion, list_any}
use Rattle.std.specs.List.Sorted.{IsPermutation}
use Rattle.std.proofs.lemmas.Bool.{and_parts, false≢true, true≢false, or_cases}
use Rattle.std.proofs.lemmas.List.Folds.{list_any-append}
use Rattle.std.proofs.lemmas.List.Sorted.{list_any-IsPermutation}
use Rattle.ips_text.specs.Ancestry.{parent, same_path}
use Rattle.ips_text.proofs.Ancestry.{same_path-self, same_path-true}
use Rattle.ips_text.proofs.Truths.{both_true, or_true}
use Rattle.ips_outside.specs.Image.{Image}
use Rattle.ips_outside.specs.Children.{is_child, is_directory}
use Rattle.ips_index.specs.Rows.{IndexedValue, index_text}
use Rattle.ips_manifest.specs.Manifest.{IsManifestOf, manifest_text, renumbered}
use Rattle.ips_manifest.specs.declared.line.Line.{Line}
use Rattle.ips_records.specs.Lines.{lines_text}
use Rattle.ips_state.specs.State.{Ascend, Installed, Recorded, head_of}
use Rattle.ips_state.specs.Form.{IsPackage}
use Rattle.ips_state.specs.Lawful.{ArePackages, IsLawful}
use Rattle.ips_state.specs.Text.{head_lines, mediator_line, name_lines, package_head, package_text, versioned_stem}
use Rattle.ips_state.specs.Records.{AreRecords, avoid_path, common_records, freeze_path, history_path, image_path, index_path, index_records, installed_path, manifest_path, mediators_path, package_path, package_records, packages_path, records_by, records_of}
use Rattle.ips_load.specs.Held.{Holds, HoldsIndex, HoldsPackages, Stands, StandsManifest}
use Rattle.ips_entries.specs.Standing.{Written, HasNoOther, JustStand, has_path, recounted, recounted_package}
use Rattle.ips_entries.proofs.OneState.{EachAt, Manifested, stems_in}

-- the canonical text of a manifest that some text means reads as that manifest
abbrev pub Again : Type 0
Again = (bytes : List ℕ) (lines : List Line) → IsManifestOf bytes lines → IsManifestOf (manifest_text lines) (renumbered 1 lines)

-- ---- lists of records

-- the record is this one
abbrev pub is_entry : List ℕ → List ℕ → Written → Bool
is_entry path bytes e = same_path e.0 path && same_path e.1 bytes

-- the record is in the list
abbrev pub HasEntry : List Written → List ℕ → List ℕ → Type 0
HasEntry entries path bytes = list_any (is_entry path bytes) entries ≡ true

pub entry_here : (e : Written) (entries : List Written) → HasEntry (e ∷ entries) e.0 e.1
entry_here e entries = ap (λ (b : Bool). b || list_any (is_entry e.0 e.1) entries) (both_true (same_path e.0 e.0) (same_path e.1 e.1) (same_path-self e.0) (same_path-self e.1))

pub entry_later : (e : Written) (entries : List Written) (path bytes : List ℕ) → HasEntry entries path bytes → HasEntry (e ∷ entries) path bytes
entry_later e entries path bytes is = ap (λ (b : Bool). is_entry path bytes e || b) is ∙ or_true (is_entry path bytes e)

pub each_entry : (At : List ℕ → List ℕ → Type 0) (entries : List Written) → ((path bytes : List ℕ) → HasEntry entries path bytes → At path bytes) → AllByRecursion (λ (e : Written). At e.0 e.1) entries
each_entry At [] to = tt
each_entry At (e ∷ entries) to = (to e.0 e.1 (entry_here e entries), each_entry At entries (λ path bytes is. to path bytes (entry_later e entries path bytes is)))

pub entry_told : (At : List ℕ → List ℕ → Type 0) (entries : List Written) (path bytes : List ℕ) → AllByRecursion (λ (e : Written). At e.0 e.1) entries → HasEntry entries path bytes → At path bytes
entry_told At [] path bytes all is = absurd (true≢false (sym is))
entry_told At (e ∷ entries) path bytes all is = elim (or_cases (is_entry path bytes e) (list_any (is_entry path bytes) entries) is) [
  | inl here ↦
      let parts = and_parts (same_path e.0 path) (same_path e.1 bytes) here in
      subst (λ (b : List ℕ). At path b) (same_path-true e.1 bytes parts.1) (subst (λ (q : List ℕ). At q e.1) (same_path-true e.0 path parts.0) all.0)
  | inr later ↦ entry_told At entries path bytes all.1 later
]

-- what holds of all records of a list holds of those in another order
all_entries : (At : List ℕ → List ℕ → Type 0) (old new : List Written) → IsPermutation old new → AllByRecursion (λ (e : Written). At e.0 e.1) new → AllByRecursion (λ (e : Written). At e.0 e.1) old
all_entries At old new moved all = each_entry At old (λ path bytes is. entry_told At new path bytes all (sym (list_any-IsPermutation (is_entry path bytes) old new moved) ∙ is))

head_all : {A : Type 0} (P : A → Type 0) (x : A) (xs : List A) → AllByRecursion P (x ∷ xs) → P x
head_all P x xs all = all.0

tail_all : {A : Type 0} (P : A → Type 0) (x : A) (xs : List A) → AllByRecursion P (x ∷ xs) → AllByRecursion P xs
tail_all P x xs all = all.1

left_all : {A : Type 0} (P : A → Type 0) (xs ys : List A) → AllByRecursion P (xs ++ ys) → AllByRecursion P xs
left_all P [] ys all = tt
left_all P (x ∷ xs) ys all = (all.0, left_all P xs ys all.1)

right_all : {A : Type 0} (P : A → Type 0) (xs ys : List A) → AllByRecursion P (xs ++ ys) → AllByRecursion P ys
right_all P [] ys all = all
right_all P (x ∷ xs) ys all = right_all P xs ys all.1

none_any : {A : Type 0} (f : A → Bool) (xs : List A) → AllByRecursion (λ (x : A). f x ≡ false) xs → list_any f xs ≡ false
none_any f [] all = refl
none_any f (x ∷ xs) all = ap (λ (b : Bool). b || list_any f xs) all.0 ∙ none_any f xs all.1

-- a test that none of the first passes finds what it finds among the others
pub found_right : {A : Type 0} (f : A → Bool) (xs ys : List A) → AllByRecursion (λ (x : A). f x ≡ false) xs → list_any f (xs ++ ys) ≡ true → list_any f ys ≡ true
found_right f xs ys none is = ap (λ (b : Bool). b || list_any f ys) (sym (none_any f xs none)) ∙ sym (list_any-append f xs ys) ∙ is

-- ---- the records of a state, one by one

module _ (At : List ℕ → List ℕ → Type 0) where
  abbrev at_entry : Written → Type 0
  at_entry e = At e.0 e.1

  listed_each : Again → (ps : List Installed) → AllByRecursion IsPackage ps → AllByRecursion at_entry (map (λ p. (manifest_path p.stem, manifest_text p.lines)) ps)
      → AllByRecursion (λ (p : Installed). Manifested At (manifest_path p.stem) [] p) (map recounted_package ps)
  listed_each again [] lawful all = tt
  listed_each again (p ∷ ps) lawful all =
      (record { text = manifest_text p.lines; at = all.0; means = again lawful.0.manifest.0 p.lines lawful.0.manifest.1 }, listed_each again ps lawful.1 all.1)

  recorded_each : Again → (ps : List Installed) → AllByRecursion IsPackage ps → AllByRecursion at_entry (package_records ps)
      → AllByRecursion (λ (p : Installed). Manifested At (package_path p.stem) (package_head p.version) p) (map recounted_package ps)
  recorded_each again [] lawful all = tt
  recorded_each again (p ∷ ps) lawful all =
      (record { text = manifest_text p.lines; at = all.0; means = again lawful.0.manifest.0 p.lines lawful.0.manifest.1 }, recorded_each again ps lawful.1 all.1)

  names_recounted : (ps : List Installed) → map versioned_stem (map recounted_package ps) ≡ map versioned_stem ps
  names_recounted [] = refl
  names_recounted (p ∷ ps) = ap (λ l. versioned_stem p ∷ l) (names_recounted ps)

  each_at : Again → (first : Bool) (ps : List Installed) → AllByRecursion IsPackage ps → AllByRecursion at_entry (records_by first ps) → EachAt first At (map recounted_package ps)
  each_at again true ps lawful all = (
    subst (λ names. At installed_path (lines_text (name_lines names))) (sym (names_recounted ps)) (head_all at_entry (installed_path, lines_text (name_lines (map versioned_stem ps))) (map (λ p. (manifest_path p.stem, manifest_text p.lines)) ps) all),
    listed_each again ps lawful (tail_all at_entry (installed_path, lines_text (name_lines (map versioned_stem ps))) (map (λ p. (manifest_path p.stem, manifest_text p.lines)) ps) all),
  )
  each_at again false ps lawful all = recorded_each again ps lawful all

  -- what all records of a state have, each has
  pub record Spread (r : Recorded) : Type 0 where
    pub head : At image_path (lines_text (head_lines (head_of r)))
    pub avoid : At avoid_path (lines_text r.avoid)
    pub freeze : At freeze_path (lines_text (name_lines r.freeze))
    pub mediators : At mediators_path (lines_text (map mediator_line r.mediators))
    pub history : At history_path (lines_text r.history)
    pub index : AllByRecursion at_entry (index_records r.index)
    pub packages : EachAt (r.format == 1) At (map recounted_package r.installed)

  pub spread : Again → (r : Recorded) → ArePackages r.installed → AllByRecursion at_entry (records_of r) → Spread r
  spread again r lawful all =
      let head : Written = (image_path, lines_text (head_lines (head_of r))) in
      let avoid : Written = (avoid_path, lines_text r.avoid) in
      let freeze : Written = (freeze_path, lines_text (name_lines r.freeze)) in
      let mediators : Written = (mediators_path, lines_text (map mediator_line r.mediators)) in
      let history : Written = (history_path, lines_text r.history) in
      let index = index_records r.index in
      let common = left_all at_entry (common_records r) (records_by (r.format == 1) r.installed) all in
      let one = tail_all at_entry head (avoid ∷ freeze ∷ mediators ∷ history ∷ index) common in
      let two = tail_all at_entry avoid (freeze ∷ mediators ∷ history ∷ index) one in
      let three = tail_all at_entry freeze (mediators ∷ history ∷ index) two in
      let four = tail_all at_entry mediators (history ∷ index) three in
      record {
        head = head_all at_entry head (avoid ∷ freeze ∷ mediators ∷ history ∷ index) common;
        avoid = head_all at_entry avoid (freeze ∷ mediators ∷ history ∷ index) one;
        freeze = head_all at_entry freeze (mediators ∷ history ∷ index) two;
        mediators = head_all at_entry mediators (history ∷ index) three;
        history = head_all at_entry history index four;
        index = tail_all at_entry history index four;
        packages = each_at again (r.format == 1) r.installed lawful.each (right_all at_entry (common_records r) (records_by (r.format == 1) r.installed) all);
      }

-- ---- the lawful state, recounted

stems_recounted : (ps : List Installed) → stems_in ps ≡ stems_in (map recounted_package ps)
stems_recounted [] = refl
stems_recounted (p ∷ ps) = ap (λ (l : List (List ℕ)). p.stem ∷ l) (stems_recounted ps)

packages_recounted : Again → (ps : List Installed) → ArePackages ps → ArePackages (map recounted_package ps)
packages_recounted again ps h = record { each = each ps h.each; order = subst Ascend (stems_recounted ps) h.order }
  where
    each : (qs : List Installed) → AllByRecursion IsPackage qs → AllByRecursion IsPackage (map recounted_package qs)
    each [] all = tt
    each (q ∷ qs) all = (record { stem = all.0.stem; version = all.0.version; manifest = (manifest_text q.lines, again all.0.manifest.0 q.lines all.0.manifest.1) }, each qs all.1)

pub lawful_recounted : Again → (r : Recorded) → IsLawful r → IsLawful (recounted r)
lawful_recounted again r h = record {
  head = h.head;
  installed = packages_recounted again r.installed h.installed;
  avoid = h.avoid;
  freeze = h.freeze;
  mediators = h.mediators;
  history = h.history;
  index = h.index;
}

-- ---- records of which none is at a path

-- no record of the state has a path that none of these has
pub common_without : (f : Written → Bool) (r : Recorded) → ((b : List ℕ) → f (image_path, b) ≡ false) → ((b : List ℕ) → f (avoid_path, b) ≡ false) → ((b : List ℕ) → f (freeze_path, b) ≡ false)
    → ((b : List ℕ) → f (mediators_path, b) ≡ false) → ((b : List ℕ) → f (history_path, b) ≡ false) → AllByRecursion (λ (e : Written). f e ≡ false) (index_records r.index) → AllByRecursion (λ (e : Written). f e ≡ false) (common_records r)
common_without f r head avoid freeze mediators history index =
    (head (lines_text (head_lines (head_of r))), (avoid (lines_text r.avoid), (freeze (lines_text (name_lines r.freeze)), (mediators (lines_text (map mediator_line r.mediators)), (history (lines_text r.history), index)))))

pub index_without : (f : Written → Bool) (index : Option (List IndexedValue)) → ((b : List ℕ) → f (index_path, b) ≡ false) → AllByRecursion (λ (e : Written). f e ≡ false) (index_records index)
index_without f None none = tt
index_without f (Some rows) none = (none (index_text rows), tt)

packages_without : (f : Written → Bool) (first : Bool) (ps : List Installed) → ((b : List ℕ) → f (installed_path, b) ≡ false) → ((s b : List ℕ) → f (manifest_path s, b) ≡ false) → ((s b : List ℕ) → f (package_path s, b) ≡ false)
    → AllByRecursion (λ (e : Written). f e ≡ false) (records_by first ps)
packages_without f true ps list manifest package_ = (list (lines_text (name_lines (map versioned_stem ps))), go ps)
  where
    go : (qs : List Installed) → AllByRecursion (λ (e : Written). f e ≡ false) (map (λ p. (manifest_path p.stem, manifest_text p.lines)) qs)
    go [] = tt
    go (q ∷ qs) = (manifest q.stem (manifest_text q.lines), go qs)
packages_without f false ps list manifest package_ = go ps
  where
    go : (qs : List Installed) → AllByRecursion (λ (e : Written). f e ≡ false) (package_records qs)
    go [] = tt
    go (q ∷ qs) = (package_ q.stem (package_text q.version q.lines), go qs)

-- where there is no index, no record has its path
pub no_index : (r : Recorded) (f : Written → Bool) → ((path b : List ℕ) → same_path path index_path ≡ false → f (path, b) ≡ false) → r.index ≡ None → list_any f (records_of r) ≡ false
no_index r f off none =
    let common = common_without f r (λ b. off image_path b refl) (λ b. off avoid_path b refl) (λ b. off freeze_path b refl) (λ b. off mediators_path b refl) (λ b. off history_path b refl)
    (subst (λ (o : Option (List IndexedValue)). AllByRecursion (λ (e : Written). f e ≡ false) (index_records o)) (sym none) tt) in
    let rest = packages_without f (r.format == 1) r.installed (λ b. off installed_path b refl) (λ s b. off (manifest_path s) b refl) (λ s b. off (package_path s) b refl) in
    list_any-append f (common_records r) (records_by (r.format == 1) r.installed) ∙ ap₂ (λ (a b : Bool). a || b) (none_any f (common_records r) common) (none_any f (records_by (r.format == 1) r.installed) rest)

-- ---- an image at which the records stand

-- a path whose parent isn't the folder of packages is no child of it
no_child : (t : Image) (x path : List ℕ) → is_directory packages_path (parent x) ≡ false → is_child t packages_path path ≡ true → same_path x path ≡ false
no_child t x path off child = go (same_path x path) refl
  where
    go : (b : Bool) → same_path x path ≡ b → b ≡ false
    go true e = absurd (true≢false (sym (and_parts (is_some (t.look path)) (is_directory packages_path (parent path)) child).1 ∙ ap (λ (q : List ℕ). is_directory packages_path (parent q)) (sym (same_path-true x path e)) ∙ off))
    go false e = refl

place_among : (path : List ℕ) (ps : List Installed) → list_any (λ (e : Written). same_path e.0 path) (package_records ps) ≡ list_any (λ p. same_path (package_path p.stem) path) (map recounted_package ps)
place_among path [] = refl
place_among path (p ∷ ps) = ap (λ (b : Bool). same_path (package_path p.stem) path || b) (place_among path ps)

module _ (t : Image) (r : Recorded) (entries : List Written) (due : IsPermutation (records_of r) entries) where
  child_among : (r.format == 1) ≡ false → (path : List ℕ) → is_child t packages_path path ≡ true → has_path entries path ≡ true → list_any (λ p. same_path (package_path p.stem) path) (map recounted_package r.installed) ≡ true
  child_among second path child has =
      let f : Written → Bool = λ e. same_path e.0 path in
      let off = λ (x : List ℕ) (free : is_directory packages_path (parent x) ≡ false). no_child t x path free child in
      let common = common_without f r (λ b. off image_path refl) (λ b. off avoid_path refl) (λ b. off freeze_path refl) (λ b. off mediators_path refl) (λ b. off history_path refl) (index_without f r.index (λ b. off index_path refl)) in
      let found = found_right f (common_records r) (records_by (r.format == 1) r.installed) common (list_any-IsPermutation f (records_of r) entries due ∙ has) in
      sym (place_among path r.installed) ∙ ap (λ (b : Bool). list_any f (records_by b r.installed)) (sym second) ∙ found

  each_stands : (front : List ℕ → List ℕ) (head : Installed → List ℕ) (ps : List Installed) → AllByRecursion (λ (p : Installed). Manifested (Stands t) (front p.stem) (head p) p) ps → AllByRecursion (λ (p : Installed). StandsManifest t (front p.stem) (head p) p) ps
  each_stands front head [] all = tt
  each_stands front head (p ∷ ps) all = (record { text = all.0.text; stands = all.0.at; means = all.0.means }, each_stands front head ps all.1)

  packages_held : (first : Bool) → (r.format == 1) ≡ first → EachAt first (Stands t) (map recounted_package r.installed) → HasNoOther first t entries → HoldsPackages first t (map recounted_package r.installed)
  packages_held true is told other = record { names = told.0; each = each_stands manifest_path (λ p. []) (map recounted_package r.installed) told.1 }
  packages_held false is told other = record {
    folder = other.0.0;
    native = other.0.1;
    each = each_stands package_path (λ p. package_head p.version) (map recounted_package r.installed) told;
    only = λ path child. child_among is path child (other.1 path child);
  }

  index_held : (t.look index_path ≡ None) ⊎ IsTrue (has_path entries index_path) → AllByRecursion (λ (e : Written). Stands t e.0 e.1) (index_records r.index) → HoldsIndex t r.index
  index_held which all = go r.index refl all
    where
      go : (o : Option (List IndexedValue)) → r.index ≡ o → AllByRecursion (λ (e : Written). Stands t e.0 e.1) (index_records o) → HoldsIndex t o
      go (Some rows) is a = a.0
      go None is a = elim which [
        | inl none ↦ none
        | inr has ↦
            let f : Written → Bool = λ e. same_path e.0 index_path in
            absurd (false≢true (sym (no_index r f (λ path b off. off) is) ∙ list_any-IsPermutation f (records_of r) entries due ∙ has))
      ]

pub read_back : Again → (t : Image) (r : Recorded) (entries : List Written) → IsLawful r → AreRecords r entries → JustStand (r.format == 1) t entries → Holds t (recounted r)
read_back again t r entries lawful records stand =
    let parts = spread (Stands t) again r lawful.installed (all_entries (Stands t) (records_of r) entries records.due stand.each) in
    record {
      lawful = lawful_recounted again r lawful;
      head = parts.head;
      packages = packages_held t r entries records.due (r.format == 1) refl parts.packages stand.packages;
      avoid = parts.avoid;
      freeze = parts.freeze;
      mediators = parts.mediators;
      history = parts.history;
      index = index_held t r entries records.due stand.index parts.index;
    }
