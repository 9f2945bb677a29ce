-- An image holds one state at most, and a list of records is that of one.
use Rattle.std.proofs.Common.{◌≡◌, inl, inr, ℕ, Bool, true, false, cond, ◌||◌, ◌&&◌, ◌==◌, List, [], ◌∷◌, ◌++◌, map, Option, Some, None, is_some, refl, sym, ◌∙◌, ap, subst, arith}
use Rattle.std.specs.List.{AllByRecursion, list_all, list_any}
use Rattle.std.specs.List.Sorted.{IsPermutation}
use Rattle.std.proofs.lemmas.Bool.{and_parts, false≢true, true≢false, or_cases}
use Rattle.std.proofs.lemmas.Bool.Decides.{nat_tests}
use Rattle.std.proofs.lemmas.List.Sorted.{list_any-IsPermutation}
use Rattle.std.proofs.lemmas.Map.Keys.{sorted_head, sorted_tail}
use Rattle.ips_text.specs.Ancestry.{behind, parent, same_path}
use Rattle.ips_text.specs.Quote.{quoted}
use Rattle.ips_text.proofs.Ancestry.{same_path-true}
use Rattle.ips_text.proofs.Truths.{both_true}
use Rattle.ips_outside.specs.Image.{Image, Entry as Seen, file_bytes}
use Rattle.ips_outside.specs.Children.{is_child, is_directory}
use Rattle.ips_fmri.specs.Name.{IsStem}
use Rattle.ips_files.specs.Files.{file_at}
use Rattle.ips_index.specs.Rows.{IndexedValue}
use Rattle.ips_records.proofs.FileNames.{stem_name}
use Rattle.ips_records.proofs.Joined.{is_name_byte}
use Rattle.ips_state.specs.State.{Ascend, Installed, Recorded}
use Rattle.ips_state.specs.Form.{IsPackage}
use Rattle.ips_state.specs.Lawful.{IsLawful}
use Rattle.ips_state.specs.Text.{package_head, package_text}
use Rattle.ips_state.specs.Records.{AreRecords, common_records, index_path, index_records, manifest_path, package_path, package_records, packages_path, records_by, records_of}
use Rattle.ips_load.specs.Held.{Holds, HoldsIndex, HoldsPackages, StandsManifest}
use Rattle.ips_entries.specs.Standing.{Written, recounted, recounted_package}
use Rattle.ips_entries.proofs.OneState.{EachAt, IndexAt, Manifested, PackagesAt, Tells, above_all, among, head_among, heads_same, not_less_itself, stems_in, tail_among, told_one}
use Rattle.ips_entries.proofs.PathsDiffer.{place_one}
use Rattle.ips_entries.proofs.ReadBack.{Again, HasEntry, common_without, each_entry, entry_here, entry_later, found_right, index_without, is_entry, lawful_recounted, no_index, spread}

-- ---- what an image holds

abbrev FileIs : Image → List ℕ → List ℕ → Type 0
FileIs t path bytes = file_at t path ≡ Some bytes

pub file_one : (t : Image) (path a b : List ℕ) → FileIs t path a → FileIs t path b → a ≡ b
file_one t path a b ha hb = same a b (sym ha ∙ hb)
  where
    same : (x y : List ℕ) → (let o : Option (List ℕ) = Some x in o) ≡ Some y → x ≡ y
    same x y e = cc

file_stands : (t : Image) (path bytes : List ℕ) → FileIs t path bytes → is_some (t.look path) ≡ true
file_stands t path bytes at = go (t.look path) refl
  where
    go : (o : Option Seen) → t.look path ≡ o → is_some o ≡ true
    go (Some e) is = refl
    go None is = absurd (none_is (sym at ∙ ap file_bytes is))
      where
        none_is : (let o : Option (List ℕ) = Some bytes in o) ≡ None → ⊥
        none_is e = cc

pub none_stands : (t : Image) (path bytes : List ℕ) → t.look path ≡ None → FileIs t path bytes → ⊥
none_stands t path bytes none at = false≢true (ap (λ (o : Option Seen). is_some o) (sym none) ∙ file_stands t path bytes at)

-- the folder of packages is the parent of a package's record
no_parent : (name : List ℕ) → list_all is_name_byte name ≡ true → parent name ≡ None
no_parent [] h = refl
no_parent (b ∷ name) h =
    let parts = and_parts (is_name_byte b) (list_all is_name_byte name) h in
    ap (behind b) (no_parent name parts.1) ∙ ap (λ (c : Bool). cond c (let o : Option (List ℕ) = Some [] in o) None) (off b parts.0)
  where
    off : (c : ℕ) → is_name_byte c ≡ true → (c == 47) ≡ false
    off c e = grind (arith, nat_tests)

parent_joined : (dir name : List ℕ) → parent name ≡ None → parent (dir ++ 47 ∷ name) ≡ Some dir
parent_joined [] name none = ap (behind 47) none
parent_joined (b ∷ dir) name none = ap (behind b) (parent_joined dir name none)

record_child : (t : Image) (stem bytes : List ℕ) → IsStem false stem → FileIs t (package_path stem) bytes → is_child t packages_path (package_path stem) ≡ true
record_child t stem bytes h at =
    both_true (is_some (t.look (package_path stem))) (is_directory packages_path (parent (package_path stem))) (file_stands t (package_path stem) bytes at)
    (ap (is_directory packages_path) (parent_joined packages_path (quoted stem) (no_parent (quoted stem) (stem_name stem h).bytes)))

-- a place among those of packages is that of a stem among theirs
stem_at_place : (ps : List Installed) (stem : List ℕ) → AllByRecursion IsPackage ps → IsStem false stem → list_any (λ (p : Installed). same_path (package_path p.stem) (package_path stem)) ps ≡ true → among (stems_in ps) stem ≡ true
stem_at_place [] stem all h is = absurd (true≢false (sym is))
stem_at_place (p ∷ ps) stem all h is = elim (or_cases (same_path (package_path p.stem) (package_path stem)) (list_any (λ (q : Installed). same_path (package_path q.stem) (package_path stem)) ps) is) [
  | inl here ↦
      let one = place_one false p.stem stem all.0.stem h (same_path-true (package_path p.stem) (package_path stem) here) in
      subst (λ (s : List ℕ). among (stems_in (p ∷ ps)) s ≡ true) one (head_among p.stem (stems_in ps))
  | inr later ↦ tail_among p.stem stem (stems_in ps) (stem_at_place ps stem all.1 h later)
]

manifests_told : (t : Image) (front : List ℕ → List ℕ) (head : Installed → List ℕ) (ps : List Installed) → AllByRecursion (λ (p : Installed). StandsManifest t (front p.stem) (head p) p) ps → AllByRecursion (λ (p : Installed). Manifested (FileIs t) (front p.stem) (head p) p) ps
manifests_told t front head [] all = tt
manifests_told t front head (p ∷ ps) all = (record { text = all.0.text; at = all.0.stands.file; means = all.0.means }, manifests_told t front head ps all.1)

packages_told : (t : Image) (first : Bool) (ps : List Installed) → AllByRecursion IsPackage ps → HoldsPackages first t ps → PackagesAt first (FileIs t) ps
packages_told t true ps all h = (h.names.file, manifests_told t manifest_path (λ p. []) ps h.each)
packages_told t false ps all h =
    (manifests_told t package_path (λ p. package_head p.version) ps h.each, λ stem bytes is at. stem_at_place ps stem all is (h.only (package_path stem) (record_child t stem bytes is at)))

index_told : (t : Image) (o : Option (List IndexedValue)) → HoldsIndex t o → IndexAt (FileIs t) o
index_told t None h = λ bytes at. none_stands t index_path bytes h at
index_told t (Some rows) h = h.file

held_told : (t : Image) (r : Recorded) → Holds t r → Tells (FileIs t) r
held_told t r h = record {
  lawful = h.lawful;
  head = h.head.file;
  packages = packages_told t (r.format == 1) r.installed h.lawful.installed.each h.packages;
  avoid = h.avoid.file;
  freeze = h.freeze.file;
  mediators = h.mediators.file;
  history = h.history.file;
  index = index_told t r.index h.index;
}

pub held_once : (t : Image) (r s : Recorded) → Holds t r → Holds t s → r ≡ s
held_once t r s hr hs = told_one (FileIs t) (file_one t) r s (held_told t r hr) (held_told t s hs)

-- ---- lists of records

abbrev paths_of : List Written → List (List ℕ)
paths_of entries = map (λ (e : Written). e.0) entries

path_among : (entries : List Written) (path bytes : List ℕ) → HasEntry entries path bytes → among (paths_of entries) path ≡ true
path_among [] path bytes is = is
path_among (e ∷ entries) path bytes is = elim (or_cases (is_entry path bytes e) (list_any (is_entry path bytes) entries) is) [
  | inl here ↦ ap (λ (b : Bool). b || among (paths_of entries) path) (and_parts (same_path e.0 path) (same_path e.1 bytes) here).0
  | inr later ↦ tail_among e.0 path (paths_of entries) (path_among entries path bytes later)
]

-- what a record at the head has as its bytes
head_bytes : (e : Written) (entries : List Written) (bytes : List ℕ) → Ascend (paths_of (e ∷ entries)) → HasEntry (e ∷ entries) e.0 bytes → e.1 ≡ bytes
head_bytes e entries bytes up is = elim (or_cases (is_entry e.0 bytes e) (list_any (is_entry e.0 bytes) entries) is) [
  | inl here ↦ same_path-true e.1 bytes (and_parts (same_path e.0 e.0) (same_path e.1 bytes) here).1
  | inr later ↦ absurd (not_less_itself e.0 e.0 refl (above_all e.0 e.0 (paths_of entries) (sorted_head _ e.0 (paths_of entries) up) (path_among entries e.0 bytes later)))
]

entries_one : (entries : List Written) → Ascend (paths_of entries) → (path a b : List ℕ) → HasEntry entries path a → HasEntry entries path b → a ≡ b
entries_one [] up path a b ha hb = absurd (true≢false (sym ha))
entries_one (e ∷ entries) up path a b ha hb = elim (or_cases (is_entry path a e) (list_any (is_entry path a) entries) ha) [
  | inl here ↦
      let parts = and_parts (same_path e.0 path) (same_path e.1 a) here in
      let at = same_path-true e.0 path parts.0 in
      sym (same_path-true e.1 a parts.1) ∙ head_bytes e entries b up (subst (λ (q : List ℕ). HasEntry (e ∷ entries) q b) (sym at) hb)
  | inr later ↦ elim (or_cases (is_entry path b e) (list_any (is_entry path b) entries) hb) [
    | inl here ↦
        let parts = and_parts (same_path e.0 path) (same_path e.1 b) here in
        let at = same_path-true e.0 path parts.0 in
        sym (head_bytes e entries a up (subst (λ (q : List ℕ). HasEntry (e ∷ entries) q a) (sym at) ha)) ∙ same_path-true e.1 b parts.1
    | inr behind_ ↦ entries_one entries (sorted_tail _ e.0 (paths_of entries) up) path a b later behind_
  ]
]

-- a record behind the head of one list is behind that of the other
entry_behind : (e f : Written) (es fs : List Written) (path bytes : List ℕ) → e.0 ≡ f.0 → Ascend (paths_of (e ∷ es)) → HasEntry es path bytes → HasEntry (f ∷ fs) path bytes → HasEntry fs path bytes
entry_behind e f es fs path bytes same up is other = elim (or_cases (is_entry path bytes f) (list_any (is_entry path bytes) fs) other) [
  | inl here ↦
      let at = same_path-true f.0 path (and_parts (same_path f.0 path) (same_path f.1 bytes) here).0 in
      absurd (not_less_itself e.0 path (same ∙ at) (above_all e.0 path (paths_of es) (sorted_head _ e.0 (paths_of es) up) (path_among es path bytes is)))
  | inr later ↦ later
]

same_entries : (es fs : List Written) → Ascend (paths_of es) → Ascend (paths_of fs) → ((path bytes : List ℕ) → HasEntry es path bytes → HasEntry fs path bytes) → ((path bytes : List ℕ) → HasEntry fs path bytes → HasEntry es path bytes) → es ≡ fs
same_entries [] [] up_e up_f to back = refl
same_entries [] (f ∷ fs) up_e up_f to back = absurd (true≢false (sym (back f.0 f.1 (entry_here f fs))))
same_entries (e ∷ es) [] up_e up_f to back = absurd (true≢false (sym (to e.0 e.1 (entry_here e es))))
same_entries (e ∷ es) (f ∷ fs) up_e up_f to back =
    let there = to e.0 e.1 (entry_here e es) in
    let here = back f.0 f.1 (entry_here f fs) in
    let path = heads_same e.0 f.0 (paths_of es) (paths_of fs) (sorted_head _ e.0 (paths_of es) up_e) (sorted_head _ f.0 (paths_of fs) up_f) (path_among (f ∷ fs) e.0 e.1 there) (path_among (e ∷ es) f.0 f.1 here) in
    let bytes = head_bytes e es f.1 up_e (subst (λ (q : List ℕ). HasEntry (e ∷ es) q f.1) (sym path) here) in
    let rest = same_entries es fs (sorted_tail _ e.0 (paths_of es) up_e) (sorted_tail _ f.0 (paths_of fs) up_f)
    (λ p b is. entry_behind e f es fs p b path up_e is (to p b (entry_later e es p b is)))
    (λ p b is. entry_behind f e fs es p b (sym path) up_f is (back p b (entry_later f fs p b is))) in
    λ j. (path j, bytes j) ∷ rest j

pub one_list : (r : Recorded) (a b : List Written) → AreRecords r a → AreRecords r b → a ≡ b
one_list r a b ha hb =
    same_entries a b ha.order hb.order
    (λ path bytes is. sym (list_any-IsPermutation (is_entry path bytes) (records_of r) b hb.due) ∙ list_any-IsPermutation (is_entry path bytes) (records_of r) a ha.due ∙ is)
    (λ path bytes is. sym (list_any-IsPermutation (is_entry path bytes) (records_of r) a ha.due) ∙ list_any-IsPermutation (is_entry path bytes) (records_of r) b hb.due ∙ is)

-- ---- the state of a list of records

module _ (r : Recorded) (entries : List Written) (due : IsPermutation (records_of r) entries) where
  written : (path bytes : List ℕ) → HasEntry (records_of r) path bytes → HasEntry entries path bytes
  written path bytes is = sym (list_any-IsPermutation (is_entry path bytes) (records_of r) entries due) ∙ is

  unwritten : (path bytes : List ℕ) → HasEntry entries path bytes → HasEntry (records_of r) path bytes
  unwritten path bytes is = list_any-IsPermutation (is_entry path bytes) (records_of r) entries due ∙ is

  stem_written : (ps : List Installed) (stem bytes : List ℕ) → AllByRecursion IsPackage ps → IsStem false stem → HasEntry (package_records ps) (package_path stem) bytes → among (stems_in (map recounted_package ps)) stem ≡ true
  stem_written [] stem bytes all h is = absurd (true≢false (sym is))
  stem_written (p ∷ ps) stem bytes all h is = elim (or_cases (is_entry (package_path stem) bytes (package_path p.stem, package_text p.version p.lines)) (list_any (is_entry (package_path stem) bytes) (package_records ps)) is) [
    | inl here ↦
        let place = same_path-true (package_path p.stem) (package_path stem) (and_parts (same_path (package_path p.stem) (package_path stem)) (same_path (package_text p.version p.lines) bytes) here).0 in
        subst (λ (s : List ℕ). among (stems_in (map recounted_package (p ∷ ps))) s ≡ true) (place_one false p.stem stem all.0.stem h place) (head_among p.stem (stems_in (map recounted_package ps)))
    | inr later ↦ tail_among p.stem stem (stems_in (map recounted_package ps)) (stem_written ps stem bytes all.1 h later)
  ]

  packages_written : (first : Bool) → (r.format == 1) ≡ first → AllByRecursion IsPackage r.installed → EachAt first (HasEntry entries) (map recounted_package r.installed) → PackagesAt first (HasEntry entries) (map recounted_package r.installed)
  packages_written true is all told = told
  packages_written false is all told = (
    told,
    λ stem bytes h at.
        let f = is_entry (package_path stem) bytes in
        let common = common_without f r (λ b. refl) (λ b. refl) (λ b. refl) (λ b. refl) (λ b. refl) (index_without f r.index (λ b. refl)) in
        let found = found_right f (common_records r) (records_by (r.format == 1) r.installed) common (unwritten (package_path stem) bytes at) in
        stem_written r.installed stem bytes all h (ap (λ (b : Bool). list_any f (records_by b r.installed)) (sym is) ∙ found),
  )

  index_written : (o : Option (List IndexedValue)) → r.index ≡ o → AllByRecursion (λ (e : Written). HasEntry entries e.0 e.1) (index_records o) → IndexAt (HasEntry entries) o
  index_written None is all = λ bytes at. false≢true (sym (no_index r (is_entry index_path bytes) (λ path b off. ap (λ (x : Bool). x && same_path b bytes) off) is) ∙ unwritten index_path bytes at)
  index_written (Some rows) is all = all.0

written_told : Again → (r : Recorded) (entries : List Written) → IsLawful r → AreRecords r entries → Tells (HasEntry entries) (recounted r)
written_told again r entries lawful records =
    let parts = spread (HasEntry entries) again r lawful.installed (each_entry (HasEntry entries) (records_of r) (written r entries records.due)) in
    record {
      lawful = lawful_recounted again r lawful;
      head = parts.head;
      packages = packages_written r entries records.due (r.format == 1) refl lawful.installed.each parts.packages;
      avoid = parts.avoid;
      freeze = parts.freeze;
      mediators = parts.mediators;
      history = parts.history;
      index = index_written r entries records.due r.index refl parts.index;
    }

pub one_written : Again → (r s : Recorded) (entries : List Written) → IsLawful r → IsLawful s → AreRecords r entries → AreRecords s entries → recounted r ≡ recounted s
one_written again r s entries hr hs ar as_ = told_one (HasEntry entries) (entries_one entries ar.order) (recounted r) (recounted s) (written_told again r entries hr ar) (written_told again s entries hs as_)
