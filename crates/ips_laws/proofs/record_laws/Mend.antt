-- The records of an image stand behind a repair, which puts the history.
use Rattle.std.proofs.Common.{◌≡◌, ℕ, ◌≤◌, Bool, true, false, ◌==◌, List, [], ◌∷◌, ◌++◌, length, Option, Some, None, is_some, is_none, refl, sym, ◌∙◌, ap, inl, inr}
use Rattle.std.specs.List.{AllByRecursion}
use Rattle.std.proofs.lemmas.Bool.{and_from, cases_Bool, false_from_ne_true}
use Rattle.ips_text.specs.Ancestry.{same_path, covers, is_below, parent}
use Rattle.ips_text.proofs.Ancestry.{covers-self, covers_trans, parent_covers, same_path-self, same_path-true}
use Rattle.ips_outside.specs.Image.{File, Image, IsImage, file_bytes, is_dir, with_mode}
use Rattle.ips_outside.specs.Children.{is_child, is_directory, is_foreign}
use Rattle.ips_steps.specs.Private.{records_name}
use Rattle.ips_steps.proofs.Lists.{clash}
use Rattle.ips_index.specs.Rows.{IndexedValue, index_text}
use Rattle.ips_records.specs.Form.{IsRequestLine}
use Rattle.ips_records.specs.Lines.{lines_text}
use Rattle.ips_state.specs.Records.{avoid_path, freeze_path, history_path, image_path, index_path, installed_path, manifest_path, mediators_path, package_path, packages_path}
use Rattle.ips_state.specs.State.{Installed, Recorded}
use Rattle.ips_state.specs.Text.{package_head}
use Rattle.ips_load.specs.Held.{Holds, HoldsIndex, HoldsPackages, Stands, StandsManifest, record_limit}
use Rattle.ips_after.specs.Request.{IsRequest, Request, lays}
use Rattle.ips_after.specs.Salvage.{Aside, IsAside, IsOwn, image_saving}
use Rattle.ips_after.proofs.Fits.{below_covers, below_trans, exists_dir}
use Rattle.ips_after.proofs.Saved.{comparable}
use Rattle.ips_due.specs.Apart.{lost_path}
use Rattle.ips_due.specs.Due.{IsOverOf, Own, holds_content, said_record}
use Rattle.ips_request_due.specs.repairs.Repairing.{repair_due}
use Rattle.ips_laws.proofs.record_laws.DuePaths.{IsInside, in_packages, index_is_inside, packages_are_inside}
use Rattle.ips_laws.proofs.record_laws.Own.{Bare, absent, bytes_there, laid, stays, unmade}
use Rattle.ips_laws.proofs.record_laws.Stand.{bytes_moded, child_there, dir_moded, foreign_moded, held_bytes}
use Rattle.ips_outside.proofs.Looks.{none_or}

-- ---- paths

-- A path in the folder of the records, outside that of all salvage folders, that is neither at, above nor below the history.
pub record IsElse (q : List ℕ) : Type 0 where
  pub inside : IsInside q
  pub up : covers history_path q ≡ false
  pub down : covers q history_path ≡ false

image_else : IsElse image_path
unfolding records_name
image_else = record { inside = record { deep = refl; off = refl }; up = refl; down = refl }

avoid_else : IsElse avoid_path
unfolding records_name
avoid_else = record { inside = record { deep = refl; off = refl }; up = refl; down = refl }

freeze_else : IsElse freeze_path
unfolding records_name
freeze_else = record { inside = record { deep = refl; off = refl }; up = refl; down = refl }

mediators_else : IsElse mediators_path
unfolding records_name
mediators_else = record { inside = record { deep = refl; off = refl }; up = refl; down = refl }

installed_else : IsElse installed_path
unfolding records_name
installed_else = record { inside = record { deep = refl; off = refl }; up = refl; down = refl }

index_else : IsElse index_path
index_else = record { inside = index_is_inside; up = refl; down = refl }

packages_else : IsElse packages_path
packages_else = record { inside = packages_are_inside; up = refl; down = refl }

manifest_else : (s : List ℕ) → IsElse (manifest_path s)
unfolding records_name
manifest_else s = record { inside = record { deep = refl; off = refl }; up = refl; down = refl }

package_else : (s : List ℕ) → IsElse (package_path s)
unfolding records_name
package_else s = record { inside = record { deep = refl; off = refl }; up = refl; down = refl }

history_inside : IsInside history_path
unfolding records_name
history_inside = record { deep = refl; off = refl }

-- so is what is right below the folder of packages
child_else : (q : List ℕ) → parent q ≡ Some packages_path → IsElse q
child_else q right = record {
  inside = record { deep = below_trans records_name packages_path q packages_are_inside.deep (in_packages q right); off = apart lost_path refl refl };
  up = apart history_path refl refl;
  down = false_from_ne_true _ (λ h. clash (covers packages_path history_path) (covers_trans packages_path q history_path over h) refl);
}
  where
    over : covers packages_path q ≡ true
    over = parent_covers q packages_path right

    apart : (x : List ℕ) → covers x packages_path ≡ false → covers packages_path x ≡ false → covers x q ≡ false
    apart x one two = false_from_ne_true _ (λ h. elim (comparable x packages_path q h over) [
      | inl c ↦ clash (covers x packages_path) c one
      | inr c ↦ clash (covers packages_path x) c two
    ])

module _ (bytes : List ℕ → List ℕ) (holds : List ℕ → List ℕ → Bool) (r : Request) (t : Image) (a : Aside) (good : IsRequest r) (formed : IsImage t) (own : IsOwn r t a) (aside : IsAside r t a) (lost : covers lost_path a.root ≡ true)
    (history : List (List ℕ)) (over : IsOverOf bytes holds (repair_due history) t r.over) where
  abbrev u : Image
  u = image_saving r t a

  -- they speak of the history alone
  silent : (x : List ℕ) → same_path history_path x ≡ false → r.over.at x ≡ None
  silent x off = over.at x ∙ rw off refl

  module _ (q : List ℕ) (at : IsElse q) where
    silent_over : (x : List ℕ) → covers x q ≡ true → r.over.at x ≡ None
    silent_over x up = silent x (false_from_ne_true _ (λ same. clash (covers history_path q) (ap (λ (y : List ℕ). covers y q) (same_path-true history_path x same) ∙ up) at.up))

    unlaid : (y : List ℕ) → is_below q y ≡ true → lays (r.over.at y) ≡ false
    unlaid y down = ap lays (silent y (false_from_ne_true _ (λ same. clash (covers q history_path) (ap (covers q) (same_path-true history_path y same) ∙ below_covers q y down) at.down)))

    stays_there : is_none (t.look q) ≡ false → with_mode 0 (u.look q) ≡ with_mode 0 (t.look q)
    stays_there some = stays r t a good formed own aside lost q at.inside.deep at.inside.off silent_over some (unmade r t a good formed own aside lost q at.inside.deep unlaid)

    stands_there : (b : List ℕ) → Stands t q b → Stands u q b
    stands_there b h = record {
      file = sym (bytes_moded (u.look q)) ∙ ap file_bytes (stays_there (bytes_there (t.look q) b h.file)) ∙ bytes_moded (t.look q) ∙ h.file;
      within = h.within;
    }

    bare_there : t.look q ≡ None → u.look q ≡ None
    bare_there none = absent r t a good formed own aside lost q at.inside.deep at.inside.off unlaid (Bare (silent_over q (covers-self q)) none)

  manifests_there : (path : List ℕ → List ℕ) → ((s : List ℕ) → IsElse (path s)) → (front : Installed → List ℕ) (ps : List Installed)
      → AllByRecursion (λ (p : Installed). StandsManifest t (path p.stem) (front p) p) ps → AllByRecursion (λ (p : Installed). StandsManifest u (path p.stem) (front p) p) ps
  manifests_there path at front [] all = tt
  manifests_there path at front (p ∷ ps) all = (record { text = all.0.text; stands = stands_there (path p.stem) (at p.stem) (front p ++ all.0.text) all.0.stands; means = all.0.means }, manifests_there path at front ps all.1)

  -- what is in the folder of packages was there
  child_was : (q : List ℕ) → is_child u packages_path q ≡ true → is_child t packages_path q ≡ true
  child_was q child = go (is_some (t.look q)) refl
    where
      parts : (is_some (u.look q) ≡ true) × (parent q ≡ Some packages_path)
      parts = child_there u q child

      go : (b : Bool) → is_some (t.look q) ≡ b → is_child t packages_path q ≡ true
      go true there = and_from _ _ there (ap (is_directory packages_path) parts.1 ∙ same_path-self packages_path)
      go false bare = clash (is_some (u.look q)) parts.0 (ap is_some (bare_there q (child_else q parts.1) (none_or (t.look q) (λ there. clash (is_some (t.look q)) there bare))))

  packages_there : (first : Bool) (ps : List Installed) → HoldsPackages first t ps → HoldsPackages first u ps
  packages_there true ps h = record { names = stands_there installed_path installed_else _ h.names; each = manifests_there manifest_path manifest_else (λ p. []) ps h.each }
  packages_there false ps h =
      let same = stays_there packages_path packages_else (exists_dir t packages_path h.folder) in
      record {
        folder = sym (dir_moded (u.look packages_path)) ∙ ap is_dir same ∙ dir_moded (t.look packages_path) ∙ h.folder;
        native = sym (foreign_moded (u.look packages_path)) ∙ ap is_foreign same ∙ foreign_moded (t.look packages_path) ∙ h.native;
        each = manifests_there package_path package_else (λ p. package_head p.version) ps h.each;
        only = λ q child. h.only q (child_was q child);
      }

  index_there : (o : Option (List IndexedValue)) → HoldsIndex t o → HoldsIndex u o
  index_there None h = bare_there index_path index_else h
  index_there (Some rows) h = stands_there index_path index_else (index_text rows) h

  -- ---- the history

  abbrev text : List ℕ
  text = lines_text history

  said_history : r.over.at history_path ≡ said_record bytes holds (Own text) false (t.look history_path)
  said_history = over.at history_path

  history_there : file_bytes (u.look history_path) ≡ Some text
  history_there = go (holds_content holds (Own text) (t.look history_path)) refl
    where
      go : (h : Bool) → holds_content holds (Own text) (t.look history_path) ≡ h → file_bytes (u.look history_path) ≡ Some text
      go false off = ap file_bytes (laid r t a good formed own aside lost history_path (File 420 text) (said_history ∙ rw off refl))
      go true stands =
          let held = held_bytes holds text (t.look history_path) stands in
          let unsaid : r.over.at history_path ≡ None = said_history ∙ rw stands refl in
          let quiet : (x : List ℕ) → r.over.at x ≡ None = λ x. elim (cases_Bool (same_path history_path x)) [
            | inl same ↦ ap r.over.at (sym (same_path-true history_path x same)) ∙ unsaid
            | inr apart ↦ silent x apart
          ] in
          let same = stays r t a good formed own aside lost history_path history_inside.deep history_inside.off (λ x up. quiet x) held.1 (unmade r t a good formed own aside lost history_path history_inside.deep (λ y down. ap lays (quiet y))) in
          sym (bytes_moded (u.look history_path)) ∙ ap file_bytes same ∙ bytes_moded (t.look history_path) ∙ held.0

  -- the image after holds the state with this history
  pub mended_held : (old : Recorded) → Holds t old → AllByRecursion IsRequestLine history → length text ≤ record_limit → Holds u (record old { history = history })
  mended_held old h lines small = record {
    lawful = record { head = h.lawful.head; installed = h.lawful.installed; avoid = h.lawful.avoid; freeze = h.lawful.freeze; mediators = h.lawful.mediators; history = lines; index = h.lawful.index };
    head = stands_there image_path image_else _ h.head;
    packages = packages_there (old.format == 1) old.installed h.packages;
    avoid = stands_there avoid_path avoid_else _ h.avoid;
    freeze = stands_there freeze_path freeze_else _ h.freeze;
    mediators = stands_there mediators_path mediators_else _ h.mediators;
    history = record { file = history_there; within = small };
    index = index_there old.index h.index;
  }
