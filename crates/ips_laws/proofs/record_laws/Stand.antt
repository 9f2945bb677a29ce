-- The records of the new state stand in the image after a request, and nothing else does where records are looked for.
use Rattle.std.proofs.Common.{◌≡◌, ℕ, ◌≤◌, Bool, true, false, ◌||◌, ◌==◌, List, [], ◌∷◌, ◌++◌, map, length, Option, Some, None, is_some, is_none, refl, sym, ◌∙◌, ap, subst, inl, inr}
use Rattle.std.specs.List.{AllByRecursion, list_any}
use Rattle.std.proofs.lemmas.Bool.{and_from, and_parts, cases_Bool, false_from_ne_true, or_cases, or_left, or_parts, or_right, not-true}
use Rattle.std.proofs.lemmas.Option.{same_Some}
use Rattle.ips_text.specs.Ancestry.{same_path, covers, is_below, parent}
use Rattle.ips_text.proofs.Ancestry.{at_parent_of, covers-parent, covers-self, parent_covers, same_path-self, same_path-true}
use Rattle.ips_outside.specs.Image.{Dir, Entry, File, Image, IsImage, Link, Other, file_bytes, is_dir, with_mode}
use Rattle.ips_outside.specs.Children.{is_child, is_directory, is_foreign}
use Rattle.ips_steps.specs.Private.{records_name}
use Rattle.ips_steps.proofs.Lists.{clash}
use Rattle.ips_index.specs.Rows.{IndexedValue}
use Rattle.ips_state.specs.Lawful.{IsLawful}
use Rattle.ips_state.specs.Records.{index_path, index_records, manifest_path, package_path, packages_path, records_of, taken_away}
use Rattle.ips_state.specs.State.{Installed, Recorded}
use Rattle.ips_state.specs.Text.{package_head}
use Rattle.ips_load.specs.Held.{Holds, HoldsIndex, HoldsPackages, Stands, StandsManifest, record_limit}
use Rattle.ips_entries.specs.Standing.{Written, recounted, recounted_package}
use Rattle.ips_entries.proofs.OneState.{EachAt, Manifested}
use Rattle.ips_entries.proofs.ReadBack.{Again, each_entry, entry_told, lawful_recounted, spread}
use Rattle.ips_after.specs.Findings.{is_account_path}
use Rattle.ips_after.specs.Lists.{listed}
use Rattle.ips_after.specs.Request.{IsRequest, Request, lays}
use Rattle.ips_after.specs.Salvage.{Aside, IsAside, IsOwn, image_saving}
use Rattle.ips_after.proofs.Fits.{any_from, at_listed, below_covers, below_of, below_trans, exists_dir}
use Rattle.ips_after.proofs.Saved.{comparable}
use Rattle.ips_due.specs.Apart.{lost_path}
use Rattle.ips_due.specs.Delivered.{Delivered, delivered_gone, delivered_records, request_due}
use Rattle.ips_due.specs.Due.{Due, DueFile, IsDue, IsOverOf, MeansSame, Own, account_at, goes_with, holds_content, is_due, own_records, record_at, said, said_record}
use Rattle.ips_due.proofs.Fitting.{Account, Folder, Gone, Record, Said, Silent, due_of_record, said_is}
use Rattle.ips_due.proofs.StateDue.{at_record, renewed_is}
use Rattle.ips_laws.proofs.record_laws.Contents.{records_found}
use Rattle.ips_laws.proofs.record_laws.DuePaths.{IsInside, IsPlaced, account_not_above, account_outside, due_placed, gone_aside, holds_package, in_packages, index_is_inside, listed_front, package_goes, package_parent, packages_are_inside, records_inside}
use Rattle.ips_laws.proofs.record_laws.Own.{Bare, Leaves_none, Renewed, Taken, absent, laid, stays, unmade, unmade_dir}
use Rattle.ips_outside.proofs.Looks.{none_or}

-- ---- what stands

-- a mode is no matter of bytes, nor of what a directory is
pub bytes_moded : (e : Option Entry) → file_bytes (with_mode 0 e) ≡ file_bytes e
bytes_moded (Some (Dir m f)) = refl
bytes_moded (Some (File m b)) = refl
bytes_moded (Some (Link g)) = refl
bytes_moded (Some Other) = refl
bytes_moded None = refl

pub dir_moded : (e : Option Entry) → is_dir (with_mode 0 e) ≡ is_dir e
dir_moded (Some (Dir m f)) = refl
dir_moded (Some (File m b)) = refl
dir_moded (Some (Link g)) = refl
dir_moded (Some Other) = refl
dir_moded None = refl

pub foreign_moded : (e : Option Entry) → is_foreign (with_mode 0 e) ≡ is_foreign e
foreign_moded (Some (Dir m f)) = refl
foreign_moded (Some (File m b)) = refl
foreign_moded (Some (Link g)) = refl
foreign_moded (Some Other) = refl
foreign_moded None = refl

-- a file with these bytes of its own stands
pub held_bytes : (holds : List ℕ → List ℕ → Bool) (b : List ℕ) (e : Option Entry) → holds_content holds (Own b) e ≡ true → (file_bytes e ≡ Some b) × (is_none e ≡ false)
held_bytes holds b (Some (Dir m f)) h = cc
held_bytes holds b (Some (File m x)) h = (ap (λ (y : List ℕ). Some y) (sym (same_path-true b x h)), refl)
held_bytes holds b (Some (Link g)) h = cc
held_bytes holds b (Some Other) h = cc
held_bytes holds b None h = cc

none_here : {b : Bool} → b ≡ false → b ≡ true → ⊥
none_here {b} off on = clash b on off

pub child_there : (t : Image) (q : List ℕ) → is_child t packages_path q ≡ true → (is_some (t.look q) ≡ true) × (parent q ≡ Some packages_path)
child_there t q h = let parts = and_parts (is_some (t.look q)) _ h in (parts.0, go (parent q) refl parts.1)
  where
    go : (o : Option (List ℕ)) → parent q ≡ o → is_directory packages_path o ≡ true → parent q ≡ Some packages_path
    go (Some d) is same = is ∙ ap (λ (x : List ℕ). Some x) (sym (same_path-true packages_path d same))
    go None is same = cc

-- What is known of the folder of packages where the old records are of format 2 too: it stands, and holds the records of the old packages and nothing else.
pub record HeldFolder (t : Image) (packages : List Installed) : Type 0 where
  pub dir : is_dir (t.look packages_path) ≡ true
  pub native : is_foreign (t.look packages_path) ≡ false
  pub only : (q : List ℕ) → is_child t packages_path q ≡ true → holds_package packages q ≡ true

-- packages are where they were with other numbers of lines
recounted_place : (ps : List Installed) (q : List ℕ) → holds_package ps q ≡ true → list_any (λ p. same_path (package_path p.stem) q) (map recounted_package ps) ≡ true
recounted_place [] q h = h
recounted_place (p ∷ ps) q h = elim (or_cases (same_path (package_path p.stem) q) (holds_package ps q) h) [
  | inl here ↦ or_left _ _ here
  | inr later ↦ or_right (same_path (package_path p.stem) q) _ (recounted_place ps q later)
]

-- ---- what is said

-- where nothing is due nothing is said
pub not_said : (due : Due) (q : List ℕ) (o : Option (Option Entry)) → Said due q o → is_some (account_at due.accounts q) ≡ false → is_some (record_at due.records q) ≡ false → (listed due.renewed q || listed due.folders q) ≡ false → listed due.gone q ≡ false → o ≡ None
not_said due q _ (Account m b at) account rec folder gone = clash (is_some (account_at due.accounts q)) (ap is_some at) account
not_said due q _ (Record b at) account rec folder gone = clash (is_some (record_at due.records q)) at rec
not_said due q _ (Folder at) account rec folder gone = clash (listed due.renewed q || listed due.folders q) at folder
not_said due q _ (Gone at) account rec folder gone = clash (listed due.gone q) at gone
not_said due q _ Silent account rec folder gone = refl

module _ (bytes : List ℕ → List ℕ) (holds : List ℕ → List ℕ → Bool) (r : Request) (t : Image) (a : Aside) (good : IsRequest r) (formed : IsImage t) (own : IsOwn r t a) (aside : IsAside r t a) (lost : covers lost_path a.root ≡ true)
    (due : Due) (accounts : List DueFile) (old new : Recorded) (was is : Delivered) (means : MeansSame due (request_due accounts old new was is)) (hangs : IsDue due) (over : IsOverOf bytes holds due t r.over) where
  abbrev u : Image
  u = image_saving r t a

  said_at : (q : List ℕ) → Said due q (r.over.at q)
  said_at q = subst (Said due q) (sym (over.at q)) (said_is bytes holds due t q)

  record_placed : (q : List ℕ) → is_some (record_at due.records q) ≡ true → IsPlaced new.installed new.index q
  record_placed q h = at_record (IsPlaced new.installed new.index) (own_records (records_of new) ++ delivered_records is) q (due_placed new is) (sym (ap is_some (means.records q)) ∙ h)

  renewed_at : (q : List ℕ) → listed due.renewed q ≡ true → q ≡ packages_path
  renewed_at q h = (renewed_is (old.format == 1) (new.format == 1) q (sym (means.renewed q) ∙ h)).0

  folder_at : (q : List ℕ) → (listed due.renewed q || listed due.folders q) ≡ true → q ≡ packages_path
  folder_at q h = elim (or_cases (listed due.renewed q) (listed due.folders q) h) [
    | inl renewed ↦ renewed_at q renewed
    | inr folder ↦ clash (listed due.folders q) folder (means.folders q)
  ]

  no_account_in : (q : List ℕ) → is_below records_name q ≡ true → is_some (account_at due.accounts q) ≡ false
  no_account_in q deep = false_from_ne_true _ (λ h. clash (is_below records_name q) deep (account_outside q (hangs.accounts q h)))

  -- ---- what is laid

  -- What is laid is an account file, a record or the folder of packages.
  data Laid_at (q : List ℕ) : Type 0 where
    Book : is_account_path q ≡ true → Laid_at q
    Kept_record : is_some (record_at due.records q) ≡ true → Laid_at q
    Packages : q ≡ packages_path → Laid_at q

  laid_at : (q : List ℕ) (o : Option (Option Entry)) → Said due q o → lays o ≡ true → Laid_at q
  laid_at q _ (Account m b at) h = Book (hangs.accounts q (ap is_some at))
  laid_at q _ (Record b at) h = Kept_record at
  laid_at q _ (Folder at) h = Packages (folder_at q at)
  laid_at q _ (Gone at) h = cc
  laid_at q _ Silent h = cc

  none_laid : (q : List ℕ) → (Laid_at q → ⊥) → lays (r.over.at q) ≡ false
  none_laid q off = false_from_ne_true _ (λ h. off (laid_at q (r.over.at q) (said_at q) h))

  -- ---- one record

  module _ (q b : List ℕ) (at : record_at due.records q ≡ Some (Own b)) (inside : IsInside q) where
    q_due : is_due due q ≡ true
    q_due = due_of_record due q (ap is_some at)

    -- nothing above is due but folders
    flat_above : (x : List ℕ) → is_below x q ≡ true → (is_some (account_at due.accounts x) ≡ false) × ((is_some (record_at due.records x) ≡ false) × (listed due.gone x ≡ false))
    flat_above x up =
        let parts = or_parts (is_some (account_at due.accounts x)) _ (hangs.flat x q up q_due) in
        (parts.0, or_parts (is_some (record_at due.records x)) _ parts.1)

    said_here : r.over.at q ≡ said_record bytes holds (Own b) (goes_with due q) (t.look q)
    said_here = over.at q ∙ rw (none_or (account_at due.accounts q) (none_here (no_account_in q inside.deep)), at) refl

    laid_here : r.over.at q ≡ Some (Some (File 420 b)) → file_bytes (u.look q) ≡ Some b
    laid_here said = ap file_bytes (laid r t a good formed own aside lost q (File 420 b) said)

    -- nothing is made below it
    none_below : (y : List ℕ) → is_below q y ≡ true → lays (r.over.at y) ≡ false
    none_below y up = none_laid y (λ l. clash (is_some (record_at due.records q)) (ap is_some at) (flat l))
      where
        flat_of : is_due due y ≡ true → is_some (record_at due.records q) ≡ false
        flat_of there = (or_parts (is_some (record_at due.records q)) _ (or_parts (is_some (account_at due.accounts q)) _ (hangs.flat q y up there)).1).0

        flat : Laid_at y → is_some (record_at due.records q) ≡ false
        flat (Book h) = clash (is_below records_name y) (below_trans records_name q y inside.deep up) (account_outside y h)
        flat (Kept_record h) = flat_of (due_of_record due y h)
        flat (Packages h) = clash (covers q packages_path) (subst (λ (x : List ℕ). covers q x ≡ true) h (below_covers q y up)) (record_placed q (ap is_some at)).up

    module _ (stands : holds_content holds (Own b) (t.look q) ≡ true) (keeps : goes_with due q ≡ false) where
      not_renewed : (x : List ℕ) → covers x q ≡ true → (listed due.renewed x || listed due.folders x) ≡ false
      not_renewed x up = false_from_ne_true _ (λ h. elim (or_cases (listed due.renewed x) (listed due.folders x) h) [
        | inl renewed ↦ clash (goes_with due q) (or_left _ _ (any_from (λ p. covers p q) due.renewed x renewed up)) keeps
        | inr folder ↦ clash (listed due.folders x) folder (means.folders x)
      ])

      silent : (x : List ℕ) → covers x q ≡ true → r.over.at x ≡ None
      silent x up = elim (cases_Bool (same_path x q)) [
        | inl same ↦ ap r.over.at (same_path-true x q same) ∙ said_here ∙ rw (stands, keeps) refl
        | inr apart ↦ let flat = flat_above x (below_of x q up apart) in not_said due x (r.over.at x) (said_at x) flat.0 flat.1.0 (not_renewed x up) flat.1.1
      ]

      kept_here : file_bytes (u.look q) ≡ Some b
      kept_here =
          let held = held_bytes holds b (t.look q) stands in
          let same = stays r t a good formed own aside lost q inside.deep inside.off silent held.1 (unmade r t a good formed own aside lost q inside.deep none_below) in
          sym (bytes_moded (u.look q)) ∙ ap file_bytes same ∙ bytes_moded (t.look q) ∙ held.0

    pub record_stands : file_bytes (u.look q) ≡ Some b
    record_stands = go (holds_content holds (Own b) (t.look q)) refl (goes_with due q) refl
      where
        go : (h : Bool) → holds_content holds (Own b) (t.look q) ≡ h → (g : Bool) → goes_with due q ≡ g → file_bytes (u.look q) ≡ Some b
        go true stands false keeps = kept_here stands keeps
        go true stands true goes = laid_here (said_here ∙ rw (stands, goes) refl)
        go false off g goes = laid_here (said_here ∙ rw off refl)

  all_stand : IsLawful new → AllByRecursion (λ (e : Written). length e.1 ≤ record_limit) (records_of new) → AllByRecursion (λ (e : Written). Stands u e.0 e.1) (records_of new)
  all_stand lawful small = each_entry (Stands u) (records_of new) (λ path text there.
      let found = entry_told (λ p b. record_at (own_records (records_of new) ++ delivered_records is) p ≡ Some (Own b)) (records_of new) path text (records_found new (delivered_records is) lawful.installed) there in
      let inside = entry_told (λ p b. IsInside p) (records_of new) path text (records_inside new) there in
      record {
        file = record_stands path text (means.records path ∙ found) inside;
        within = entry_told (λ p b. length b ≤ record_limit) (records_of new) path text small there;
      })

  -- ---- no index

  abbrev Leaves : List ℕ → Type 0
  Leaves q = Leaves_none r t a good formed own aside lost q

  module _ (none : new.index ≡ None) (bare : t.look index_path ≡ None) where
    none_below_index : (y : List ℕ) → is_below index_path y ≡ true → lays (r.over.at y) ≡ false
    none_below_index y up = none_laid y off
      where
        off : Laid_at y → ⊥
        off (Book h) = clash (is_below records_name y) (below_trans records_name index_path y index_is_inside.deep up) (account_outside y h)
        off (Kept_record h) = clash (is_below index_path y) up (record_placed y h).under
        off (Packages h) = clash (is_below index_path y) up (ap (is_below index_path) h)

    index_leaves : (o : Option (Option Entry)) → r.over.at index_path ≡ o → Said due index_path o → Leaves index_path
    index_leaves _ said (Account m b at) = clash (is_some (account_at due.accounts index_path)) (ap is_some at) (no_account_in index_path index_is_inside.deep)
    index_leaves _ said (Record b at) = clash (same_path index_path index_path) refl ((record_placed index_path at).apart none)
    index_leaves _ said (Folder at) = let bad : index_path ≡ packages_path = folder_at index_path at in absurd cc
    index_leaves _ said (Gone at) = Taken said
    index_leaves _ said Silent = Bare said bare

    pub no_index : u.look index_path ≡ None
    no_index = absent r t a good formed own aside lost index_path index_is_inside.deep index_is_inside.off none_below_index (index_leaves (r.over.at index_path) refl (said_at index_path))

  -- ---- packages of format 2

  module _ (second : (new.format == 1) ≡ false) (held : (old.format == 1) ≡ false → HeldFolder t old.installed) where
    no_record_folder : is_some (record_at due.records packages_path) ≡ false
    no_record_folder = false_from_ne_true _ (λ h. clash (covers packages_path packages_path) (covers-self packages_path) (record_placed packages_path h).up)

    renewed_laid : (old.format == 1) ≡ true → r.over.at packages_path ≡ Some (Some (Dir 493 false))
    renewed_laid first =
        let renewed : listed due.renewed packages_path ≡ true = means.renewed packages_path ∙ rw (first, second) refl in
        over.at packages_path ∙ rw (none_or (account_at due.accounts packages_path) (none_here (no_account_in packages_path packages_are_inside.deep)), none_or (record_at due.records packages_path) (none_here no_record_folder), renewed) refl

    silent_folder : (old.format == 1) ≡ false → (x : List ℕ) → covers x packages_path ≡ true → r.over.at x ≡ None
    silent_folder was_second x up =
        not_said due x (r.over.at x) (said_at x)
        (false_from_ne_true _ (λ h. clash (covers x packages_path) up (account_not_above x (hangs.accounts x h))))
        (false_from_ne_true _ (λ h. clash (covers x packages_path) up (record_placed x h).up))
        (false_from_ne_true _ (λ h. elim (or_cases (listed due.renewed x) (listed due.folders x) h) [
          | inl renewed ↦ clash (listed due.renewed x) renewed (means.renewed x ∙ rw (was_second, second) refl)
          | inr folder ↦ clash (listed due.folders x) folder (means.folders x)
        ]))
        (false_from_ne_true _ (λ h. clash (covers x packages_path) up (at_listed (λ (y : List ℕ). covers y packages_path ≡ false) (taken_away old new ++ delivered_gone was is) x (gone_aside old new was is) (sym (means.gone x) ∙ h))))

    folder_stands : (first : Bool) → (old.format == 1) ≡ first → (is_dir (u.look packages_path) ≡ true) × (is_foreign (u.look packages_path) ≡ false)
    folder_stands true first = let at = laid r t a good formed own aside lost packages_path (Dir 493 false) (renewed_laid first) in (ap is_dir at, ap is_foreign at)
    folder_stands false was_second =
        let silent = silent_folder was_second in
        let there = held was_second in
        let same = stays r t a good formed own aside lost packages_path packages_are_inside.deep packages_are_inside.off silent (exists_dir t packages_path there.dir) (unmade_dir r t a good formed own aside lost packages_path packages_are_inside.deep silent there.dir) in
        (sym (dir_moded (u.look packages_path)) ∙ ap is_dir same ∙ dir_moded (t.look packages_path) ∙ there.dir, sym (foreign_moded (u.look packages_path)) ∙ ap is_foreign same ∙ foreign_moded (t.look packages_path) ∙ there.native)

    module _ (q : List ℕ) (right : parent q ≡ Some packages_path) (off : holds_package new.installed q ≡ false) where
      above_it : covers packages_path q ≡ true
      above_it = parent_covers q packages_path right

      not_up : covers q packages_path ≡ false
      not_up = covers-parent q packages_path right

      in_folder : is_below packages_path q ≡ true
      in_folder = in_packages q right

      deep : is_below records_name q ≡ true
      deep = below_trans records_name packages_path q packages_are_inside.deep in_folder

      not_lost : covers lost_path q ≡ false
      not_lost = false_from_ne_true _ (λ h. elim (comparable lost_path packages_path q h above_it) [
        | inl one ↦ clash (covers lost_path packages_path) one refl
        | inr two ↦ clash (covers packages_path lost_path) two refl
      ])

      no_record_here : is_some (record_at due.records q) ≡ false
      no_record_here = false_from_ne_true _ (λ h. elim (record_placed q h).within [
        | inl out ↦ clash (is_below packages_path q) in_folder out
        | inr has ↦ clash (holds_package new.installed q) has off
      ])

      no_folder_here : (listed due.renewed q || listed due.folders q) ≡ false
      no_folder_here = false_from_ne_true _ (λ h. clash (covers q packages_path) (subst (λ (x : List ℕ). covers q x ≡ true) (folder_at q h) (covers-self q)) not_up)

      -- a record that is there goes
      goes_here : (old.format == 1) ≡ false → is_some (t.look q) ≡ true → r.over.at q ≡ Some None
      goes_here was_second there =
          let has = (held was_second).only q (child_of there) in
          let taken : listed (taken_away old new) q ≡ true = rw (was_second, second) (package_goes new.installed q off old.installed has) in
          let gone : listed due.gone q ≡ true = means.gone q ∙ listed_front (taken_away old new) (delivered_gone was is) q taken in
          let folders = or_parts (listed due.renewed q) (listed due.folders q) no_folder_here in
          over.at q ∙ rw (none_or (account_at due.accounts q) (none_here (no_account_in q deep)), none_or (record_at due.records q) (none_here no_record_here), folders.0, folders.1, gone, there) refl
        where
          child_of : is_some (t.look q) ≡ true → is_child t packages_path q ≡ true
          child_of there = and_from _ _ there (ap (is_directory packages_path) right ∙ same_path-self packages_path)

      child_leaves : (first : Bool) → (old.format == 1) ≡ first → (o : Option (Option Entry)) → r.over.at q ≡ o → Said due q o → Leaves q
      child_leaves first is _ said (Account m b at) = clash (is_some (account_at due.accounts q)) (ap is_some at) (no_account_in q deep)
      child_leaves first is _ said (Record b at) = clash (is_some (record_at due.records q)) at no_record_here
      child_leaves first is _ said (Folder at) = clash (listed due.renewed q || listed due.folders q) at no_folder_here
      child_leaves first is _ said (Gone at) = Taken said
      child_leaves true is _ said Silent = Renewed packages_path (Dir 493 false) said above_it (renewed_laid is)
      child_leaves false is _ said Silent = Bare said (none_or (t.look q) (λ there. let bad : None ≡ Some None = sym said ∙ goes_here is there in absurd cc))

      none_below_child : (y : List ℕ) → is_below q y ≡ true → lays (r.over.at y) ≡ false
      none_below_child y up = none_laid y out
        where
          package_under : parent y ≡ Some packages_path → ⊥
          package_under is =
              let parts = and_parts (covers q y) _ up in
              let at = at_parent_of q y parts.0 (not-true _ parts.1) in
              clash (covers q packages_path) (subst (λ (x : List ℕ). covers q x ≡ true) (same_Some at.dir packages_path (sym at.is ∙ is)) at.up) not_up

          out : Laid_at y → ⊥
          out (Book h) = clash (is_below records_name y) (below_trans records_name q y deep up) (account_outside y h)
          out (Kept_record h) = elim (record_placed y h).within [
            | inl away ↦ clash (is_below packages_path y) (below_trans packages_path q y in_folder up) away
            | inr has ↦ package_under (package_parent new.installed y has)
          ]
          out (Packages h) = clash (covers q packages_path) (subst (λ (x : List ℕ). covers q x ≡ true) h (below_covers q y up)) not_up

      -- what stood there and is no package of the new state is gone
      pub child_gone : u.look q ≡ None
      child_gone = absent r t a good formed own aside lost q deep not_lost none_below_child (child_leaves (old.format == 1) refl (r.over.at q) refl (said_at q))

    only_packages : (q : List ℕ) → is_child u packages_path q ≡ true → holds_package new.installed q ≡ true
    only_packages q child = go (holds_package new.installed q) refl
      where
        go : (b : Bool) → holds_package new.installed q ≡ b → holds_package new.installed q ≡ true
        go true is = is
        go false is = let parts = child_there u q child in clash (is_some (u.look q)) parts.0 (ap is_some (child_gone q parts.1 is))

  -- ---- the new state

  each_stands : (front : List ℕ → List ℕ) (head : Installed → List ℕ) (ps : List Installed) → AllByRecursion (λ (p : Installed). Manifested (Stands u) (front p.stem) (head p) p) ps → AllByRecursion (λ (p : Installed). StandsManifest u (front p.stem) (head p) p) ps
  each_stands front head [] all = tt
  each_stands front head (p ∷ ps) all = (record { text = all.0.text; stands = all.0.at; means = all.0.means }, each_stands front head ps all.1)

  packages_held : (first : Bool) → (new.format == 1) ≡ first → ((old.format == 1) ≡ false → HeldFolder t old.installed) → EachAt first (Stands u) (map recounted_package new.installed) → HoldsPackages first u (map recounted_package new.installed)
  packages_held true is held told = record { names = told.0; each = each_stands manifest_path (λ p. []) (map recounted_package new.installed) told.1 }
  packages_held false is held told =
      let folder = folder_stands is held (old.format == 1) refl in
      record {
        folder = folder.0;
        native = folder.1;
        each = each_stands package_path (λ p. package_head p.version) (map recounted_package new.installed) told;
        only = λ q child. recounted_place new.installed q (only_packages is held q child);
      }

  index_held : (new.index ≡ None → t.look index_path ≡ None) → (o : Option (List IndexedValue)) → new.index ≡ o → AllByRecursion (λ (e : Written). Stands u e.0 e.1) (index_records o) → HoldsIndex u o
  index_held bare None is all = no_index is (bare is)
  index_held bare (Some rows) is all = all.0

  pub new_held : Again → IsLawful new → AllByRecursion (λ (e : Written). length e.1 ≤ record_limit) (records_of new) → (new.index ≡ None → t.look index_path ≡ None) → ((old.format == 1) ≡ false → HeldFolder t old.installed) → Holds u (recounted new)
  new_held again lawful small bare held =
      let parts = spread (Stands u) again new lawful.installed (all_stand lawful small) in
      record {
        lawful = lawful_recounted again new lawful;
        head = parts.head;
        packages = packages_held (new.format == 1) refl held parts.packages;
        avoid = parts.avoid;
        freeze = parts.freeze;
        mediators = parts.mediators;
        history = parts.history;
        index = index_held bare new.index refl parts.index;
      }
