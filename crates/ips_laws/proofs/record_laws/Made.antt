-- The image that is made with a state in which nothing is installed holds it.
use Rattle.std.proofs.Common.{◌≡◌, ℕ, ◌≤◌, Bool, true, false, ◌||◌, ◌==◌, List, [], ◌∷◌, map, length, Option, Some, None, is_some, refl, sym, ◌∙◌, ap, subst, inl, inr}
use Rattle.std.specs.List.{AllByRecursion, list_any}
use Rattle.std.proofs.lemmas.Bool.{cases_Bool, false_from_ne_true, or_cases, or_from, or_parts}
use Rattle.ips_text.specs.Ancestry.{same_path, covers, is_below, parent}
use Rattle.ips_text.proofs.Ancestry.{covers-self, parent_covers, same_path-true}
use Rattle.ips_outside.specs.Image.{Dir, Entry, File, Image, file_bytes, is_dir}
use Rattle.ips_outside.specs.Children.{is_foreign}
use Rattle.ips_steps.proofs.Lists.{clash}
use Rattle.ips_state.specs.Lawful.{IsLawful}
use Rattle.ips_state.specs.Records.{common_records, index_path, package_path, packages_path, records_by, records_of}
use Rattle.ips_state.specs.State.{Installed, Recorded, installed, recorded}
use Rattle.ips_state.specs.Text.{package_head}
use Rattle.ips_state.specs.declared.state.State.{State}
use Rattle.ips_load.specs.Held.{Holds, HoldsIndex, HoldsPackages, Stands, StandsManifest, record_limit}
use Rattle.ips_entries.specs.Standing.{Written}
use Rattle.ips_entries.proofs.ReadBack.{Again, common_without, each_entry, entry_told, index_without, spread}
use Rattle.ips_after.specs.After.{over_or}
use Rattle.ips_after.specs.Change.{Changes, Kept, Laid, Removed, changed, cleared, replaces}
use Rattle.ips_after.specs.Lists.{listed}
use Rattle.ips_after.proofs.Changed.{reach_of, reached_from}
use Rattle.ips_after.proofs.Fits.{any_from, at_listed, below_of}
use Rattle.ips_change.specs.wanted.Named.{is_payload_of}
use Rattle.ips_due.specs.Delivered.{Delivered, creation_due, delivered_records, first_folders}
use Rattle.ips_due.specs.Due.{Due, Own, goes_with, holds_content, record_at, said, said_gone, said_record}
use Rattle.ips_due.proofs.Fitting.{due_of_record, said_is}
use Rattle.ips_due.proofs.RequestDue.{creation_is_due}
use Rattle.ips_due.proofs.StateDue.{all_append, at_record}
use Rattle.ips_plan.specs.created.Made.{IsBlank, image_made, made_at, no_payloads}
use Rattle.ips_laws.specs.record_laws.Recording.{AreWithin}
use Rattle.ips_laws.proofs.record_laws.Contents.{records_found}
use Rattle.ips_laws.proofs.record_laws.DuePaths.{IsPlaced, due_placed, holds_package, in_packages}
use Rattle.ips_laws.proofs.record_laws.Stand.{child_there, held_bytes, not_said}
use Rattle.ips_outside.proofs.Looks.{none_or}

-- ---- what stands where no mode is given

module _ (change : Changes) (t : Image) where
  abbrev then : Image
  then = changed change [] t

  laid_then : (q : List ℕ) (e : Entry) → change q ≡ Laid e → then.look q ≡ Some e
  laid_then q e is = rw (is, reached_from (λ p. replaces (change p)) q q (covers-self q) (ap replaces is), is) refl

  gone_then : (q : List ℕ) → change q ≡ Removed → then.look q ≡ None
  gone_then q is = rw (is, reached_from (λ p. replaces (change p)) q q (covers-self q) (ap replaces is), is) refl

  same_then : (q : List ℕ) → change q ≡ Kept → cleared change q ≡ false → then.look q ≡ t.look q
  same_then q is clear = rw (is, clear) refl

  cleared_then : (q : List ℕ) → change q ≡ Kept → cleared change q ≡ true → then.look q ≡ None
  cleared_then q is clear = rw (is, clear, is) refl

  none_then : (q : List ℕ) → change q ≡ Kept → t.look q ≡ None → then.look q ≡ None
  none_then q is none = elim (cases_Bool (cleared change q)) [
    | inl clear ↦ cleared_then q is clear
    | inr clear ↦ same_then q is clear ∙ none
  ]

-- nothing is delivered
abbrev nothing : Delivered
nothing = record { owners = []; drivers = []; licenses = []; legacy = [] }

-- the path is at or below one of the folders that an image is made with
abbrev in_first : List ℕ → Bool
in_first q = list_any (λ p. covers p q) first_folders

-- where nothing is installed no record of packages is there
none_out : (first : Bool) (ps : List Installed) → ps ≡ [] → AllByRecursion (λ (e : Written). in_first e.0 ≡ false) (records_by first ps)
none_out true [] is = (refl, tt)
none_out false [] is = tt
none_out true (p ∷ ps) is = cc
none_out false (p ∷ ps) is = cc

-- nor is any other of the state
records_out : (r : Recorded) → r.installed ≡ [] → AllByRecursion (λ (e : Written). in_first e.0 ≡ false) (records_of r)
records_out r none =
    all_append (λ (q : List ℕ). in_first q ≡ false) (common_records r) (records_by (r.format == 1) r.installed)
    (common_without (λ (e : Written). in_first e.0) r (λ b. refl) (λ b. refl) (λ b. refl) (λ b. refl) (λ b. refl) (index_without (λ (e : Written). in_first e.0) r.index (λ b. refl)))
    (none_out (r.format == 1) r.installed none)

module _ (new : Recorded) (none : new.installed ≡ []) (t : Image) where
  abbrev due : Due
  due = creation_due new

  abbrev says : List ℕ → Option (Option Entry)
  says q = said no_payloads is_payload_of due t q

  abbrev change : Changes
  change = made_at new t

  abbrev u : Image
  u = image_made new t

  as_said : (q : List ℕ) (o : Option (Option Entry)) → says q ≡ o → change q ≡ over_or o Kept
  as_said q o is = ap (λ (x : Option (Option Entry)). over_or x Kept) is

  record_placed : (q : List ℕ) → is_some (record_at due.records q) ≡ true → IsPlaced new.installed new.index q
  record_placed q h = at_record (IsPlaced new.installed new.index) due.records q (due_placed new nothing) h

  -- where nothing is due a path is kept
  kept_else : (q : List ℕ) → is_some (record_at due.records q) ≡ false → (listed due.renewed q || listed due.folders q) ≡ false → listed due.gone q ≡ false → change q ≡ Kept
  kept_else q no_record no_folder stays = as_said q None (not_said due q (says q) (said_is no_payloads is_payload_of due t q) refl no_record no_folder stays)

  -- ---- one record

  module _ (q b : List ℕ) (at : record_at due.records q ≡ Some (Own b)) (out : in_first q ≡ false) where
    said_here : says q ≡ said_record no_payloads is_payload_of (Own b) (goes_with due q) (t.look q)
    said_here = rw at refl

    laid_here : says q ≡ Some (Some (File 420 b)) → file_bytes (u.look q) ≡ Some b
    laid_here is = ap file_bytes (laid_then change t q (File 420 b) (as_said q (Some (Some (File 420 b))) is))

    module _ (unsaid : says q ≡ None) (keeps : goes_with due q ≡ false) where
      no_folder : (x : List ℕ) → covers x q ≡ true → (listed due.renewed x || listed due.folders x) ≡ false
      no_folder x over = false_from_ne_true _ (λ h. elim (or_cases (listed due.renewed x) (listed due.folders x) h) [
        | inl renewed ↦ clash (list_any (λ p. covers p q) due.renewed) (any_from (λ p. covers p q) due.renewed x renewed over) (or_parts (list_any (λ p. covers p q) due.renewed) _ keeps).0
        | inr folder ↦ clash (in_first q) (any_from (λ p. covers p q) first_folders x folder over) out
      ])

      still : (x : List ℕ) → covers x q ≡ true → replaces (change x) ≡ false
      still x over = elim (cases_Bool (same_path x q)) [
        | inl same ↦ ap (λ (y : List ℕ). replaces (change y)) (same_path-true x q same) ∙ ap replaces (as_said q None unsaid)
        | inr apart ↦
            let flat = or_parts (is_some (record_at due.records x)) _ ((creation_is_due new).flat x q (below_of x q over apart) (due_of_record due q (ap is_some at))) in
            ap replaces (kept_else x flat.0 (no_folder x over) flat.1)
      ]

      kept_here : u.look q ≡ t.look q
      kept_here = same_then change t q (as_said q None unsaid) (false_from_ne_true _ (λ h. let z = reach_of (λ p. replaces (change p)) q h in clash (replaces (change z.at)) z.holds (still z.at z.over)))

    record_stands : file_bytes (u.look q) ≡ Some b
    record_stands = go (holds_content is_payload_of (Own b) (t.look q)) refl (goes_with due q) refl
      where
        go : (h : Bool) → holds_content is_payload_of (Own b) (t.look q) ≡ h → (g : Bool) → goes_with due q ≡ g → file_bytes (u.look q) ≡ Some b
        go true stands false keeps = ap file_bytes (kept_here (said_here ∙ rw (stands, keeps) refl) keeps) ∙ (held_bytes is_payload_of b (t.look q) stands).0
        go true stands true goes = laid_here (said_here ∙ rw (stands, goes) refl)
        go false off g goes = laid_here (said_here ∙ rw off refl)

  each_made : IsLawful new → AreWithin new → AllByRecursion (λ (e : Written). Stands u e.0 e.1) (records_of new)
  each_made lawful small = each_entry (Stands u) (records_of new) (λ path text there.
      let found = entry_told (λ p b. record_at due.records p ≡ Some (Own b)) (records_of new) path text (records_found new (delivered_records nothing) lawful.installed) there in
      let out = entry_told (λ p b. in_first p ≡ false) (records_of new) path text (records_out new none) there in
      record { file = record_stands path text found out; within = entry_told (λ p b. length b ≤ record_limit) (records_of new) path text small there })

  -- ---- the folder of packages

  no_record_folder : record_at due.records packages_path ≡ None
  no_record_folder = none_or (record_at due.records packages_path) (λ h. clash (covers packages_path packages_path) (covers-self packages_path) (record_placed packages_path h).up)

  folder_laid : change packages_path ≡ Laid (Dir 493 false)
  folder_laid = as_said packages_path (Some (Some (Dir 493 false))) (rw no_record_folder refl)

  -- nothing is left in it
  child_bare : (q : List ℕ) → parent q ≡ Some packages_path → u.look q ≡ None
  child_bare q right =
      cleared_then change t q (kept_else q no_record (or_from (listed due.renewed q) (listed due.folders q) (out due.renewed (refl, tt)) (out due.folders (refl, (refl, tt)))) (out due.gone (refl, tt)))
      (reached_from (λ p. replaces (change p)) packages_path q (parent_covers q packages_path right) (ap replaces folder_laid))
    where
      no_record : is_some (record_at due.records q) ≡ false
      no_record = false_from_ne_true _ (λ h. elim (record_placed q h).within [
        | inl away ↦ clash (is_below packages_path q) (in_packages q right) away
        | inr has ↦ let bad : holds_package [] q ≡ true = ap (λ (ps : List Installed). holds_package ps q) (sym none) ∙ has in absurd cc
      ])

      out : (paths : List (List ℕ)) → AllByRecursion (λ (x : List ℕ). is_below packages_path x ≡ false) paths → listed paths q ≡ false
      out paths away = false_from_ne_true _ (λ h. clash (is_below packages_path q) (in_packages q right) (at_listed (λ (x : List ℕ). is_below packages_path x ≡ false) paths q away h))

  none_held : (ps : List Installed) → ps ≡ [] → AllByRecursion (λ (p : Installed). StandsManifest u (package_path p.stem) (package_head p.version) p) ps
  none_held [] is = tt
  none_held (p ∷ ps) is = cc

  packages_made : (first : Bool) → first ≡ false → HoldsPackages first u new.installed
  packages_made true second = cc
  packages_made false second =
      let at = laid_then change t packages_path (Dir 493 false) folder_laid in
      record {
        folder = ap is_dir at;
        native = ap is_foreign at;
        each = none_held new.installed none;
        only = λ q child. let parts = child_there u q child in clash (is_some (u.look q)) parts.0 (ap is_some (child_bare q parts.1));
      }

  -- ---- no index

  module _ (bare : new.index ≡ None) where
    no_record_index : record_at due.records index_path ≡ None
    no_record_index = none_or (record_at due.records index_path) (λ h. clash (same_path index_path index_path) refl ((record_placed index_path h).apart bare))

    said_index : says index_path ≡ said_gone (t.look index_path)
    said_index = rw no_record_index refl

    index_gone : u.look index_path ≡ None
    index_gone = go (t.look index_path) refl
      where
        go : (e : Option Entry) → t.look index_path ≡ e → u.look index_path ≡ None
        go (Some e) is = gone_then change t index_path (as_said index_path (Some None) (said_index ∙ ap said_gone is))
        go None is = none_then change t index_path (as_said index_path None (said_index ∙ ap said_gone is)) is

    pub made_held : Again → (new.format == 1) ≡ false → IsLawful new → AreWithin new → Holds u new
    made_held again second lawful small =
        let parts = spread (Stands u) again new lawful.installed (each_made lawful small) in
        record {
          lawful = lawful;
          head = parts.head;
          packages = packages_made (new.format == 1) second;
          avoid = parts.avoid;
          freeze = parts.freeze;
          mediators = parts.mediators;
          history = parts.history;
          index = subst (HoldsIndex u) (sym bare) index_gone;
        }

-- the image that is made with a state in memory holds it
pub made_holds : Again → (new : State) (t after : Image) → after ≡ image_made (recorded new) t → IsBlank new → IsLawful (recorded new) → AreWithin (recorded new) → Holds after (recorded new)
made_holds again new t after is blank lawful small =
    subst (λ (x : Image). Holds x (recorded new)) (sym is)
    (made_held (recorded new) (ap (map installed) blank.none_installed) t blank.no_index again (ap (λ (n : ℕ). n == 1) blank.format) lawful small)
