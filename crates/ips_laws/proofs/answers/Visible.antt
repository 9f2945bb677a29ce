-- What is seen of an image records what the image does, so images that are seen the same record the same.
use Rattle.std.proofs.Common.{◌≡◌, ℕ, Bool, true, false, cond, List, [], ◌∷◌, ◌++◌, Option, Some, None, is_some, refl, sym, ◌∙◌, ap, subst}
use Rattle.std.specs.List.{AllByRecursion}
use Rattle.std.proofs.lemmas.Bool.{and_parts, and_from}
use Rattle.ips_text.specs.Ancestry.{parent}
use Rattle.ips_outside.specs.Image.{Entry, Image, file_bytes, is_dir}
use Rattle.ips_outside.specs.Children.{is_child, is_directory, is_foreign}
use Rattle.ips_steps.specs.Steps.{stage_name}
use Rattle.ips_steps.specs.Private.{gate_name, is_private, journal_name, mark_front, visible}
use Rattle.ips_index.specs.Rows.{IndexedValue, index_text}
use Rattle.ips_state.specs.State.{Installed, Recorded, recorded}
use Rattle.ips_state.specs.declared.state.State.{State}
use Rattle.ips_state.specs.Text.{package_head}
use Rattle.ips_state.specs.Records.{avoid_path, freeze_path, history_path, image_path, index_path, installed_path, manifest_path, mediators_path, package_path, packages_path, with_line}
use Rattle.ips_load.specs.Held.{Holds, HoldsIndex, HoldsPackages, Stands, StandsManifest}
use Rattle.ips_due.proofs.StateDue.{packages_seen}
use Rattle.ips_entries.proofs.HeldOnce.{held_once}
use Rattle.ips_next.proofs.OneNext.{line_one}
use Rattle.ips_operations.specs.fixing.Fixes.{Repairing, IsNoted}
use Rattle.ips_operations.specs.fixing.Decides.{IsNewState}
use Rattle.ips_due.proofs.Standing.{history_seen}

-- ---- records have no private names

image_seen : is_private image_path ≡ false
unfolding stage_name journal_name gate_name mark_front
image_seen = refl

installed_seen : is_private installed_path ≡ false
unfolding stage_name journal_name gate_name mark_front
installed_seen = refl

avoid_seen : is_private avoid_path ≡ false
unfolding stage_name journal_name gate_name mark_front
avoid_seen = refl

freeze_seen : is_private freeze_path ≡ false
unfolding stage_name journal_name gate_name mark_front
freeze_seen = refl

mediators_seen : is_private mediators_path ≡ false
unfolding stage_name journal_name gate_name mark_front
mediators_seen = refl

index_seen : is_private index_path ≡ false
unfolding stage_name journal_name gate_name mark_front
index_seen = refl

manifest_seen : (stem : List ℕ) → is_private (manifest_path stem) ≡ false
unfolding stage_name journal_name gate_name mark_front
manifest_seen stem = refl

package_seen : (stem : List ℕ) → is_private (package_path stem) ≡ false
unfolding stage_name journal_name gate_name mark_front
package_seen stem = refl

-- ---- they stand in what is seen

some_seen : (b : Bool) (e : Option Entry) → is_some (cond b None e) ≡ true → is_some e ≡ true
some_seen true e h = cc
some_seen false e h = h

module _ (t : Image) where
  abbrev v : Image
  v = visible t

  look_seen : (q : List ℕ) → is_private q ≡ false → v.look q ≡ t.look q
  look_seen q seen = ap (λ (b : Bool). cond b None (t.look q)) seen

  stands_seen : (path bytes : List ℕ) → is_private path ≡ false → Stands t path bytes → Stands v path bytes
  stands_seen path bytes seen h = record { file = ap file_bytes (look_seen path seen) ∙ h.file; within = h.within }

  manifests_seen : (path : List ℕ → List ℕ) (front : Installed → List ℕ) → ((stem : List ℕ) → is_private (path stem) ≡ false) → (ps : List Installed)
      → AllByRecursion (λ (p : Installed). StandsManifest t (path p.stem) (front p) p) ps → AllByRecursion (λ (p : Installed). StandsManifest v (path p.stem) (front p) p) ps
  manifests_seen path front seen [] all = tt
  manifests_seen path front seen (p ∷ ps) all =
      (record { text = all.0.text; stands = stands_seen (path p.stem) (front p ++ all.0.text) (seen p.stem) all.0.stands; means = all.0.means }, manifests_seen path front seen ps all.1)

  child_seen : (dir q : List ℕ) → is_child v dir q ≡ true → is_child t dir q ≡ true
  child_seen dir q h = let parts = and_parts (is_some (v.look q)) (is_directory dir (parent q)) h in and_from (is_some (t.look q)) _ (some_seen (is_private q) (t.look q) parts.0) parts.1

  installed_are_seen : (first : Bool) (ps : List Installed) → HoldsPackages first t ps → HoldsPackages first v ps
  installed_are_seen true ps h = record { names = stands_seen installed_path _ installed_seen h.names; each = manifests_seen manifest_path (λ p. []) manifest_seen ps h.each }
  installed_are_seen false ps h = record {
    folder = ap is_dir (look_seen packages_path packages_seen) ∙ h.folder;
    native = ap is_foreign (look_seen packages_path packages_seen) ∙ h.native;
    each = manifests_seen package_path (λ p. package_head p.version) package_seen ps h.each;
    only = λ path child. h.only path (child_seen packages_path path child);
  }

  rows_seen : (rows : Option (List IndexedValue)) → HoldsIndex t rows → HoldsIndex v rows
  rows_seen None h = look_seen index_path index_seen ∙ h
  rows_seen (Some rows) h = stands_seen index_path (index_text rows) index_seen h

  holds_seen : (r : Recorded) → Holds t r → Holds v r
  holds_seen r h = record {
    lawful = h.lawful;
    head = stands_seen image_path _ image_seen h.head;
    packages = installed_are_seen _ r.installed h.packages;
    avoid = stands_seen avoid_path _ avoid_seen h.avoid;
    freeze = stands_seen freeze_path _ freeze_seen h.freeze;
    mediators = stands_seen mediators_path _ mediators_seen h.mediators;
    history = stands_seen history_path _ history_seen h.history;
    index = rows_seen r.index h.index;
  }

-- images that are seen the same record the same
pub same_records : (t u : Image) (r s : Recorded) → visible t ≡ visible u → Holds t r → Holds u s → r ≡ s
same_records t u r s same h k = held_once (visible u) r s (subst (λ (x : Image). Holds x r) same (holds_seen t r h)) (holds_seen u s k)

-- ---- a repair

-- the new records are the old ones with a line more
noted_records : (a : Repairing) (old new : State) (n : IsNoted a old new) → recorded new ≡ record (recorded old) { history = with_line (recorded old).history n.line }
noted_records a old new n = ap recorded n.rest ∙ (λ i. record (recorded old) { history = n.history i })

-- images that are seen the same get the same records
pub noted_once : (a : Repairing) (t u : Image) (x y : State) → visible t ≡ visible u → IsNewState a t x → IsNewState a u y → recorded x ≡ recorded y
noted_once a t u x y seen p q =
    let olds = same_records t u (recorded p.told.state) (recorded q.told.state) seen p.told.holds q.told.holds in
    let lines = line_one a.moment a.command.history p.noted.line q.noted.line p.noted.is_line q.noted.is_line in
    noted_records a p.told.state x p.noted ∙ (λ i. record (olds i) { history = with_line (olds i).history (lines i) }) ∙ sym (noted_records a q.told.state y q.noted)
