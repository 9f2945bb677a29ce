-- Where an image holds a state, no file is at fault.
use Rattle.std.proofs.Common.{◌≡◌, inl, inr, ℕ, zero, suc, ◌<◌, Bool, true, false, ◌==◌, List, [], ◌∷◌, ◌++◌, map, length, Option, Some, None, refl, sym, ◌∙◌, ap, ap₂, subst, arith, append_assoc}
use Rattle.std.specs.Prelude.{codes, IfSome}
use Rattle.std.specs.List.{AllByRecursion, list_any}
use Rattle.std.proofs.lemmas.Bool.{true≢false, or_cases}
use Rattle.std.proofs.lemmas.List.{same_from_push}
use Rattle.ips_text.specs.Ancestry.{same_path}
use Rattle.ips_text.specs.Cut.{has_byte}
use Rattle.ips_text.specs.Quote.{quoted}
use Rattle.ips_text.proofs.Ancestry.{same_path-true}
use Rattle.ips_text.proofs.Cuts.{lacks_append}
use Rattle.ips_fmri.specs.Fmri.{fmri_text}
use Rattle.ips_fmri.specs.Name.{IsStem}
use Rattle.ips_fmri.specs.Version.{Parts, IsVersion, version_text}
use Rattle.ips_fmri.specs.declared.fmri.Fmri.{Fmri}
use Rattle.ips_outside.specs.Image.{Image, file_bytes}
use Rattle.ips_files.specs.Files.{HasSize, file_at}
use Rattle.ips_index.specs.Rows.{IndexedValue, index_text}
use Rattle.ips_index.specs.Text.{AreIndexRows, IsIndexFile}
use Rattle.ips_index.proofs.IndexFiles.{not_bad, text_file}
use Rattle.ips_manifest.specs.declared.fault.LineFault.{LineFault}
use Rattle.ips_manifest.specs.declared.fault.LineFault.TheVariants as fault
use Rattle.ips_manifest.specs.declared.fault.ManifestFault.{ManifestFault}
use Rattle.ips_manifest.specs.declared.line.Line.{Line}
use Rattle.ips_manifest.specs.Logical.{Logical, is_skipped, lines_of}
use Rattle.ips_manifest.specs.Manifest.{IsActionFault, IsFaultAt, IsFirstIn, IsManifestOf, LinesMean, TextMeans}
use Rattle.ips_mediate.specs.declared.set.SetMediator.{SetMediator}
use Rattle.ips_records.specs.Field.{version_field, word_field}
use Rattle.ips_records.specs.Form.{IsNamed, IsRequestLine}
use Rattle.ips_records.specs.Lines.{ended, lines_in, lines_text}
use Rattle.ips_records.proofs.Clear.{clear_lacks, version_field_clear, word_clear, word_field_clear}
use Rattle.ips_records.proofs.ClearNames.{name_clear, stem_clear}
use Rattle.ips_records.proofs.Texts.{text_lines}
use Rattle.ips_state.specs.Form.{IsPackage, IsSetting}
use Rattle.ips_state.specs.Lawful.{ArePackages, IsHead}
use Rattle.ips_state.specs.State.{Head, Installed, Recorded, head_of}
use Rattle.ips_state.specs.Text.{head_lines, mediator_line, name_lines, package_head, versioned_stem}
use Rattle.ips_state.specs.Records.{avoid_path, freeze_path, history_path, image_path, index_path, installed_path, manifest_path, mediators_path, package_path}
use Rattle.ips_load.specs.Fault.{HoldsLists, IsBadLine, IsBadManifest, IsBadPackage, IsBadText, IsChildrenFault, IsFileFault, IsFolderFault, IsHeadFault, IsHeadFile, IsHistoryFile, IsListFault, IsManifestsFault, IsMediatorsFile, IsNamesFile, IsRestFault, IsStemsFile, StandsAs}
use Rattle.ips_load.specs.Held.{Holds, HoldsFolder, HoldsIndex, HoldsManifest, HoldsPackage, HoldsPackages, Stands, record_limit}
use Rattle.ips_load.specs.HeadLines.{head_items, head_line_text, IsHeadLine}
use Rattle.ips_load.specs.declared.fault.StateFault.{StateFault}
use Rattle.ips_load.specs.declared.fault.StateFault.TheVariants.{NoImage, BadImage, TooLarge, FolderFault}
use Rattle.ips_load.proofs.HeadSections.{heading_fits, heading_text}
use Rattle.ips_load.proofs.OneText.{names_one}
use Rattle.ips_image.specs.Fault.{IsIndexFault}
use Rattle.ips_image.specs.Whole.{IsBehindFault, IsStateFault}
use Rattle.ips_entries.proofs.HeldOnce.{file_one, none_stands}
use Rattle.ips_entries.proofs.OneHead.{head_one, line_single, request_single}
use Rattle.ips_entries.proofs.OnePackage.{record_one}
use Rattle.ips_entries.proofs.OneState.{among, head_among, tail_among, versioned}

-- ---- texts that are of their kind

pub all_lack : {A : Type 0} (line : A → List ℕ) (Fits : A → Type 0) → ((x : A) → Fits x → has_byte 10 (line x) ≡ false) → (xs : List A) → AllByRecursion Fits xs → AllByRecursion (λ (l : List ℕ). has_byte 10 l ≡ false) (map line xs)
all_lack line Fits single [] all = tt
all_lack line Fits single (x ∷ xs) all = (single x all.0, all_lack line Fits single xs all.1)

-- the text of such lines has no bad one
pub no_bad_text : (IsFile : List (List ℕ) → Type 0) (lines : List (List ℕ)) → AllByRecursion (λ (l : List ℕ). has_byte 10 l ≡ false) lines → IsFile (map ended lines) → (n : ℕ) → IsBadText IsFile (lines_text lines) n → ⊥
no_bad_text IsFile lines lack is n bad = not_bad IsFile (lines_in (lines_text lines)) n (subst IsFile (sym (text_lines lines lack)) is) bad

pub stems_lack : (stems : List (List ℕ)) → AllByRecursion (IsStem false) stems → AllByRecursion (λ (l : List ℕ). has_byte 10 l ≡ false) stems
stems_lack [] all = tt
stems_lack (s ∷ stems) all = (clear_lacks 10 s (omega arith) (stem_clear s all.0), stems_lack stems all.1)

pub requests_lack : (lines : List (List ℕ)) → AllByRecursion IsRequestLine lines → AllByRecursion (λ (l : List ℕ). has_byte 10 l ≡ false) lines
requests_lack [] all = tt
requests_lack (l ∷ lines) all = (request_single l all.0, requests_lack lines all.1)

pub name_lacks : (f : Fmri) → IsNamed f → has_byte 10 (fmri_text f) ≡ false
name_lacks f h = clear_lacks 10 (fmri_text f) (omega arith) (name_clear f h)

pub settings_lack : (settings : List SetMediator) → AllByRecursion IsSetting settings → AllByRecursion (λ (l : List ℕ). has_byte 10 l ≡ false) (map mediator_line settings)
settings_lack settings all =
    all_lack mediator_line IsSetting (λ m s. lacks_append 10 (quoted m.name) _ (clear_lacks 10 (quoted m.name) (omega arith) (word_clear m.name s.name))
    (lacks_append 10 (version_field m.version) _ (clear_lacks 10 (version_field m.version) (omega arith) (version_field_clear m.version s.version))
    (clear_lacks 10 (word_field m.implementation) (omega arith) (word_field_clear m.implementation s.implementation)))) settings all

pub head_lacks : (h : Head) → IsHead h → AllByRecursion (λ (l : List ℕ). has_byte 10 l ≡ false) (head_lines h)
head_lacks h lawful = subst (AllByRecursion (λ (l : List ℕ). has_byte 10 l ≡ false)) (heading_text h) (all_lack head_line_text IsHeadLine line_single (head_items h) (heading_fits h lawful))

-- ---- manifests

pub no_line_fault : (l : Logical) (unreadable : Option ℕ) (skipped : Bool) (lines : List Line) (f : ManifestFault) → l.unreadable ≡ unreadable → is_skipped l.text ≡ skipped → unreadable ≡ None → TextMeans skipped l lines → IsFaultAt unreadable l f → ⊥
no_line_fault l (Some n) skipped lines f eu es none means bad = absurd cc
no_line_fault l None true lines f eu es none means bad = true≢false (sym es ∙ bad.0)
no_line_fault l None false lines f eu es none means bad = go f.fault bad.2
  where
    go : (k : LineFault) → IsActionFault l.text k → ⊥
    go fault.NotText wrong = wrong
    go (fault.Action a) wrong = wrong.1 means.0 means.1

no_first_fault : (ls : List Logical) (lines : List Line) (f : ManifestFault) → LinesMean ls lines → IsFirstIn ls f → ⊥
no_first_fault [] lines f means bad = bad
no_first_fault (l ∷ ls) lines f means bad = elim bad [
  | inl here ↦ no_line_fault l l.unreadable (is_skipped l.text) means.0 f refl refl means.2.0 means.2.1 here
  | inr later ↦ no_first_fault ls means.1 f means.3 later.1
]

pub no_bad_manifest : (text : List ℕ) (lines : List Line) → IsManifestOf text lines → (n : ℕ) → IsBadManifest text n → ⊥
no_bad_manifest text lines means n bad = no_first_fault (lines_of text) lines bad.0 means bad.1

pub no_bad_package : (v : Parts) (text : List ℕ) (lines : List Line) → IsVersion v → IsManifestOf text lines → (n : ℕ) → IsBadPackage (package_head v ++ text) n → ⊥
no_bad_package v text lines hv means zero bad = bad
no_bad_package v text lines hv means (suc zero) bad = bad (ended (codes "version " ++ version_text v) ++ text) (append_assoc (ended (codes "package 2")) (ended (codes "version " ++ version_text v)) text)
no_bad_package v text lines hv means (suc (suc zero)) bad = bad.1 v text hv refl
no_bad_package v text lines hv means (suc (suc (suc n))) bad =
    no_bad_manifest bad.1 lines (subst (λ (x : List ℕ). IsManifestOf x lines) (record_one v bad.0 text bad.1 hv bad.2 bad.3).1 means) (suc n) bad.4

-- ---- files

not_both : (t : Image) (path bytes : List ℕ) (count : ℕ) → Stands t path bytes → HasSize (file_at t path) count → record_limit < count → ⊥
not_both t path bytes count s size above = let same : length bytes ≡ count = subst (λ (o : Option (List ℕ)). HasSize o count) s.file size in omega (arith, same, above, s.within)

-- the fault of a file that stands and has no bad line is that of a call
pub file_stays : (Wrong : List ℕ → ℕ → Type 0) (t : Image) (path bytes : List ℕ) (f : StateFault) → Stands t path bytes → ((n : ℕ) → Wrong bytes n → ⊥) → IsFileFault Wrong t path f → f ≡ FolderFault
file_stays Wrong t path bytes NoImage s none bad = absurd bad
file_stays Wrong t path bytes (BadImage file line) s none bad = let told : IsBadLine Wrong (Some bytes) line = subst (λ (o : Option (List ℕ)). IsBadLine Wrong o line) s.file bad.1 in absurd (none line told.1)
file_stays Wrong t path bytes (TooLarge which count) s none bad = absurd (not_both t path bytes count s bad.1 bad.2)
file_stays Wrong t path bytes FolderFault s none bad = refl

pub no_head_fault : (t : Image) (h : Head) (f : StateFault) → IsHead h → Stands t image_path (lines_text (head_lines h)) → IsHeadFault t f → f ≡ FolderFault
no_head_fault t h NoImage lawful s bad = absurd (none_stands t image_path (lines_text (head_lines h)) bad s.file)
no_head_fault t h (BadImage file line) lawful s bad = file_stays (IsBadText IsHeadFile) t image_path (lines_text (head_lines h)) (BadImage file line) s (no_bad_text IsHeadFile (head_lines h) (head_lacks h lawful) (h, lawful, refl)) bad.1
no_head_fault t h (TooLarge which count) lawful s bad = file_stays (IsBadText IsHeadFile) t image_path (lines_text (head_lines h)) (TooLarge which count) s (no_bad_text IsHeadFile (head_lines h) (head_lacks h lawful) (h, lawful, refl)) bad
no_head_fault t h FolderFault lawful s bad = refl

no_size : (t : Image) (path : List ℕ) (count : ℕ) → t.look path ≡ None → HasSize (file_at t path) count → ⊥
no_size t path count none size = subst (λ (o : Option (List ℕ)). HasSize o count) (ap file_bytes none) size

pub no_index_fault : (t : Image) (o : Option (List IndexedValue)) (f : StateFault) → IfSome o AreIndexRows → HoldsIndex t o → IsIndexFault t f → f ≡ FolderFault
no_index_fault t o NoImage lawful h bad = absurd bad
no_index_fault t None (BadImage file line) lawful h bad = absurd (bad.0 h)
no_index_fault t None (TooLarge which count) lawful h bad = absurd (no_size t index_path count h bad.1)
no_index_fault t (Some rows) (BadImage file line) lawful h bad =
    file_stays (IsBadText IsIndexFile) t index_path (index_text rows) (BadImage file line) h (λ n wrong. not_bad IsIndexFile (lines_in (index_text rows)) n (text_file rows (index_text rows) (lawful, refl)) wrong) bad.1
no_index_fault t (Some rows) (TooLarge which count) lawful h bad =
    file_stays (IsBadText IsIndexFile) t index_path (index_text rows) (TooLarge which count) h (λ n wrong. not_bad IsIndexFile (lines_in (index_text rows)) n (text_file rows (index_text rows) (lawful, refl)) wrong) bad
no_index_fault t o FolderFault lawful h bad = refl

-- ---- files of lines

lines_same : (xs ys : List (List ℕ)) → map ended xs ≡ map ended ys → xs ≡ ys
lines_same [] [] e = refl
lines_same [] (y ∷ ys) e = absurd cc
lines_same (x ∷ xs) [] e = absurd cc
lines_same (x ∷ xs) (y ∷ ys) e =
    let head : ended x ≡ ended y = cc in
    let tail : map ended xs ≡ map ended ys = cc in
    ap₂ (λ (a : List ℕ) (l : List (List ℕ)). a ∷ l) (same_from_push x y 10 10 head).0 (lines_same xs ys tail)

-- the lines of a file of this kind are single ones
abbrev pub IsSingle : (List (List ℕ) → Type 0) → Type 0
IsSingle IsFile = (lines : List (List ℕ)) → IsFile (map ended lines) → AllByRecursion (λ (l : List ℕ). has_byte 10 l ≡ false) lines

lack_as : (lines others : List (List ℕ)) → map ended lines ≡ map ended others → AllByRecursion (λ (l : List ℕ). has_byte 10 l ≡ false) others → AllByRecursion (λ (l : List ℕ). has_byte 10 l ≡ false) lines
lack_as lines others e all = subst (AllByRecursion (λ (l : List ℕ). has_byte 10 l ≡ false)) (sym (lines_same lines others e)) all

pub single_head : IsSingle IsHeadFile
single_head lines (h, lawful, e) = lack_as lines (head_lines h) e (head_lacks h lawful)

pub single_stems : IsSingle IsStemsFile
single_stems lines (stems, are, e) = lack_as lines stems e (stems_lack stems are.each)

pub single_names : IsSingle IsNamesFile
single_names lines (names, are, e) = lack_as lines (name_lines names) e (all_lack fmri_text IsNamed name_lacks names are.each)

pub single_mediators : IsSingle IsMediatorsFile
single_mediators lines (settings, are, e) = lack_as lines (map mediator_line settings) e (settings_lack settings are.each)

pub single_history : IsSingle IsHistoryFile
single_history lines (history, are, e) = lack_as lines history e (requests_lack history are)

-- the fault of a file that stands as one of this kind is that of a call
pub stays_as : (IsFile : List (List ℕ) → Type 0) → IsSingle IsFile → (t : Image) (path : List ℕ) (f : StateFault) → StandsAs IsFile t path → IsFileFault (IsBadText IsFile) t path f → f ≡ FolderFault
stays_as IsFile single t path f s bad = file_stays (IsBadText IsFile) t path (lines_text s.0) f s.2 (no_bad_text IsFile s.0 (single s.0 s.1) s.1) bad

-- ---- all files

module _ (t : Image) where
  pub no_list_fault : (f : StateFault) → HoldsLists t → IsListFault t f → f ≡ FolderFault
  no_list_fault f held bad = elim bad [
    | inl here ↦ stays_as IsStemsFile single_stems t avoid_path f held.0 here
    | inr behind ↦ elim behind.1 [
      | inl here ↦ stays_as IsNamesFile single_names t freeze_path f held.1 here
      | inr further ↦ elim further.1 [
        | inl here ↦ stays_as IsMediatorsFile single_mediators t mediators_path f held.2 here
        | inr last ↦ stays_as IsHistoryFile single_history t history_path f held.3 last.1
      ]
    ]
  ]

  pub no_manifests_fault : (ps : List Installed) (f : StateFault) → AllByRecursion (HoldsManifest t) ps → IsManifestsFault t (map versioned_stem ps) f → f ≡ FolderFault
  no_manifests_fault [] f all bad = absurd bad
  no_manifests_fault (p ∷ ps) f all bad = elim bad [
    | inl here ↦ file_stays IsBadManifest t (manifest_path p.stem) all.0.text f all.0.stands (no_bad_manifest all.0.text p.lines all.0.means) here
    | inr later ↦ no_manifests_fault ps f all.1 later.1
  ]

  -- the record of a package stands at the path
  abbrev pub IsHeld : List ℕ → Type 0
  IsHeld path = (p : Installed) × IsPackage p × HoldsPackage t p × (package_path p.stem ≡ path)

  pub held_at : (path : List ℕ) (ps : List Installed) → AllByRecursion IsPackage ps → AllByRecursion (HoldsPackage t) ps → list_any (λ (p : Installed). same_path (package_path p.stem) path) ps ≡ true → IsHeld path
  held_at path [] lawful all is = absurd (true≢false (sym is))
  held_at path (p ∷ ps) lawful all is = elim (or_cases (same_path (package_path p.stem) path) (list_any (λ (q : Installed). same_path (package_path q.stem) path) ps) is) [
    | inl here ↦ (p, lawful.0, all.0, same_path-true (package_path p.stem) path here)
    | inr later ↦ held_at path ps lawful.1 all.1 later
  ]

  pub all_among : (P : List ℕ → Type 0) (xs : List (List ℕ)) → ((x : List ℕ) → among xs x ≡ true → P x) → AllByRecursion P xs
  all_among P [] to = tt
  all_among P (x ∷ xs) to = (to x (head_among x xs), all_among P xs (λ y is. to y (tail_among x y xs is)))

  pub no_child_fault : (p : Installed) (child : List ℕ) (f : StateFault) → IsPackage p → HoldsPackage t p → package_path p.stem ≡ child → IsFileFault IsBadPackage t child f → f ≡ FolderFault
  no_child_fault p child f lawful held e bad =
      file_stays IsBadPackage t (package_path p.stem) (package_head p.version ++ held.text) f held.stands (no_bad_package p.version held.text p.lines lawful.version held.means) (subst (λ (x : List ℕ). IsFileFault IsBadPackage t x f) (sym e) bad)

  pub no_children_fault : (children : List (List ℕ)) (f : StateFault) → AllByRecursion IsHeld children → IsChildrenFault t children f → f ≡ FolderFault
  no_children_fault [] f all bad = absurd bad
  no_children_fault (c ∷ children) f all bad = elim bad [
    | inl here ↦ elim here [
      | inl other ↦ absurd (other.0 (all.0.0.stem, all.0.1.stem, sym all.0.3))
      | inr wrong ↦ no_child_fault all.0.0 c f all.0.1 all.0.2 all.0.3 wrong.1
    ]
    | inr later ↦ no_children_fault children f all.1 later.1
  ]

  pub no_folder_fault : (packages : List Installed) (f : StateFault) → ArePackages packages → HoldsFolder t packages → IsFolderFault t f → f ≡ FolderFault
  no_folder_fault packages f lawful held bad = elim bad [
    | inl missing ↦ absurd (missing.0 (held.folder, held.native))
    | inr wrong ↦ no_children_fault wrong.1.0 f (all_among IsHeld wrong.1.0 (λ x is. held_at x packages lawful.each held.each (held.only x (sym (wrong.1.1.each x) ∙ is)))) wrong.1.2
  ]

  pub no_rest_fault : (first : Bool) (packages : List Installed) (f : StateFault) → ArePackages packages → HoldsPackages first t packages → HoldsLists t → IsRestFault first t f → f ≡ FolderFault
  no_rest_fault true packages f lawful held lists bad = elim bad [
    | inl here ↦ file_stays (IsBadText IsNamesFile) t installed_path (lines_text (name_lines (map versioned_stem packages))) f held.names
        (no_bad_text IsNamesFile (name_lines (map versioned_stem packages)) (all_lack fmri_text IsNamed name_lacks (map versioned_stem packages) (versioned packages lawful).each) (map versioned_stem packages, versioned packages lawful, refl)) here
    | inr behind ↦ elim behind.3 [
      | inl list ↦ no_list_fault f lists list
      | inr last ↦
          let names = names_one behind.0 (map versioned_stem packages) behind.1 (versioned packages lawful)
          (file_one t installed_path (lines_text (name_lines behind.0)) (lines_text (name_lines (map versioned_stem packages))) behind.2.file held.names.file) in
          no_manifests_fault packages f held.each (subst (λ (l : List Fmri). IsManifestsFault t l f) names last.1)
    ]
  ]
  no_rest_fault false packages f lawful held lists bad = elim bad [ inl here ↦ no_folder_fault packages f lawful held here | inr list ↦ no_list_fault f lists list.1 ]

module _ (t : Image) (r : Recorded) (h : Holds t r) where
  lists_held : HoldsLists t
  lists_held = (
    (r.avoid, (r.avoid, h.lawful.avoid, refl), h.avoid),
    (name_lines r.freeze, (r.freeze, h.lawful.freeze, refl), h.freeze),
    (map mediator_line r.mediators, (r.mediators, h.lawful.mediators, refl), h.mediators),
    (r.history, (r.history, h.lawful.history, refl), h.history),
  )

  no_behind_fault : (f : StateFault) → IsBehindFault (r.format == 1) t f → f ≡ FolderFault
  no_behind_fault f bad = elim bad [
    | inl files ↦ elim files [ inl call ↦ call | inr rest ↦ no_rest_fault t (r.format == 1) r.installed f h.lawful.installed h.packages lists_held rest ]
    | inr index ↦ no_index_fault t r.index f h.lawful.index h.index index.1
  ]

  pub no_fault : (f : StateFault) → IsStateFault t f → f ≡ FolderFault
  no_fault f bad = elim bad [
    | inl here ↦ no_head_fault t (head_of r) f h.lawful.head h.head here
    | inr behind ↦
        let same = head_one behind.0 (head_of r) behind.1 h.lawful.head (file_one t image_path (lines_text (head_lines behind.0)) (lines_text (head_lines (head_of r))) behind.2.file h.head.file) in
        no_behind_fault f (subst (λ (x : Head). IsBehindFault (x.format == 1) t f) same behind.3)
  ]
