-- An image holds what is held by what is seen of it.
use Rattle.std.proofs.Common.{◌≡◌, ℕ, Bool, true, false, cond, ◌==◌, List, [], ◌∷◌, ◌++◌, Option, Some, None, is_some, refl, sym, ◌∙◌, ap, subst}
use Rattle.std.specs.List.{AllByRecursion}
use Rattle.std.proofs.lemmas.Bool.{and_from, and_parts, eqb-true}
use Rattle.ips_text.specs.Ancestry.{covers}
use Rattle.ips_text.proofs.Ancestry.{parent_covers, same_path-self}
use Rattle.ips_outside.specs.Image.{Image, file_bytes, is_dir}
use Rattle.ips_outside.specs.Children.{is_child, is_directory, is_foreign}
use Rattle.ips_steps.specs.Steps.{stage_name}
use Rattle.ips_steps.specs.Private.{gate_name, is_private, journal_name, mark_front, visible}
use Rattle.ips_index.specs.Rows.{IndexedValue, index_text}
use Rattle.ips_state.specs.Records.{avoid_path, freeze_path, history_path, image_path, index_path, installed_path, manifest_path, mediators_path, package_path, package_place, packages_path}
use Rattle.ips_state.specs.State.{Installed, Recorded}
use Rattle.ips_state.specs.Text.{package_head}
use Rattle.ips_load.specs.Held.{Holds, HoldsIndex, HoldsPackages, Stands, StandsManifest}
use Rattle.ips_entries.proofs.HeldOnce.{held_once}
use Rattle.ips_laws.specs.record_laws.Recording.{HoldsJust}
use Rattle.ips_laws.proofs.record_laws.Stand.{child_there}

-- ---- records have no private names

fixed_seen : AllByRecursion (λ (q : List ℕ). is_private q ≡ false) (image_path ∷ avoid_path ∷ freeze_path ∷ mediators_path ∷ history_path ∷ index_path ∷ installed_path ∷ [])
unfolding stage_name journal_name gate_name mark_front
fixed_seen = (refl, (refl, (refl, (refl, (refl, (refl, (refl, tt)))))))

placed_seen : (first : Bool) (stem : List ℕ) → is_private (package_place first stem) ≡ false
unfolding stage_name journal_name gate_name mark_front
placed_seen true stem = refl
placed_seen false stem = refl

packed_seen : (rest : List ℕ) → is_private (packages_path ++ rest) ≡ false
unfolding stage_name journal_name gate_name mark_front
packed_seen rest = refl

cut_at : (p q : List ℕ) → covers p q ≡ true → (rest : List ℕ) × (q ≡ p ++ rest)
cut_at [] q h = (q, refl)
cut_at (a ∷ p) [] h = cc
cut_at (a ∷ p) (b ∷ q) h =
    let parts = and_parts (a == b) (covers p q) h in
    let more = cut_at p q parts.1 in
    (more.0, ap (λ (x : ℕ). x ∷ q) (sym (eqb-true a b parts.0)) ∙ ap (λ (l : List ℕ). a ∷ l) more.1)

-- ---- they stand in the whole image

module _ (t : Image) where
  pub look_seen : (q : List ℕ) → is_private q ≡ false → (visible t).look q ≡ t.look q
  look_seen q seen = ap (λ (b : Bool). cond b None (t.look q)) seen

  stands_whole : (path bytes : List ℕ) → is_private path ≡ false → Stands (visible t) path bytes → Stands t path bytes
  stands_whole path bytes seen h = record { file = ap file_bytes (sym (look_seen path seen)) ∙ h.file; within = h.within }

  manifests_whole : (path : List ℕ → List ℕ) (front : Installed → List ℕ) → ((stem : List ℕ) → is_private (path stem) ≡ false) → (ps : List Installed)
      → AllByRecursion (λ (p : Installed). StandsManifest (visible t) (path p.stem) (front p) p) ps → AllByRecursion (λ (p : Installed). StandsManifest t (path p.stem) (front p) p) ps
  manifests_whole path front seen [] all = tt
  manifests_whole path front seen (p ∷ ps) all =
      (record { text = all.0.text; stands = stands_whole (path p.stem) (front p ++ all.0.text) (seen p.stem) all.0.stands; means = all.0.means }, manifests_whole path front seen ps all.1)

  -- what is in the folder of packages is seen
  child_shown : (q : List ℕ) → is_child t packages_path q ≡ true → is_child (visible t) packages_path q ≡ true
  child_shown q child =
      let parts = child_there t q child in
      let rest = cut_at packages_path q (parent_covers q packages_path parts.1) in
      let seen : is_private q ≡ false = ap is_private rest.1 ∙ packed_seen rest.0 in
      and_from (is_some ((visible t).look q)) _ (ap is_some (look_seen q seen) ∙ parts.0) (ap (is_directory packages_path) parts.1 ∙ same_path-self packages_path)

  packages_whole : (first : Bool) (ps : List Installed) → HoldsPackages first (visible t) ps → HoldsPackages first t ps
  packages_whole true ps h = record { names = stands_whole installed_path _ fixed_seen.1.1.1.1.1.1.0 h.names; each = manifests_whole manifest_path (λ p. []) (placed_seen true) ps h.each }
  packages_whole false ps h = record {
    folder = ap is_dir (sym (look_seen packages_path (packed_seen []))) ∙ h.folder;
    native = ap is_foreign (sym (look_seen packages_path (packed_seen []))) ∙ h.native;
    each = manifests_whole package_path (λ p. package_head p.version) (placed_seen false) ps h.each;
    only = λ q child. h.only q (child_shown q child);
  }

  index_whole : (o : Option (List IndexedValue)) → HoldsIndex (visible t) o → HoldsIndex t o
  index_whole None h = sym (look_seen index_path fixed_seen.1.1.1.1.1.0) ∙ h
  index_whole (Some rows) h = stands_whole index_path (index_text rows) fixed_seen.1.1.1.1.1.0 h

  holds_whole : (r : Recorded) → Holds (visible t) r → Holds t r
  holds_whole r h = record {
    lawful = h.lawful;
    head = stands_whole image_path _ fixed_seen.0 h.head;
    packages = packages_whole _ r.installed h.packages;
    avoid = stands_whole avoid_path _ fixed_seen.1.0 h.avoid;
    freeze = stands_whole freeze_path _ fixed_seen.1.1.0 h.freeze;
    mediators = stands_whole mediators_path _ fixed_seen.1.1.1.0 h.mediators;
    history = stands_whole history_path _ fixed_seen.1.1.1.1.0 h.history;
    index = index_whole r.index h.index;
  }

-- an image holds one state at most, so what is seen and holds a state leaves just that one to be loaded
pub holds_just : (seen : Image) (r : Recorded) → Holds seen r → HoldsJust seen r
holds_just seen r h = record {
  holds = h;
  whole = λ t is. holds_whole t r (subst (λ (x : Image). Holds x r) (sym is) h);
  only = λ t loaded is other. held_once t loaded r other (holds_whole t r (subst (λ (x : Image). Holds x r) (sym is) h));
}
