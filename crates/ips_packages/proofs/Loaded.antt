-- Packages loaded one after another, and the first that can't be.
use Rattle.std.proofs.Common.{◌≡◌, ℕ, zero, suc, ◌+◌, ◌<◌, false, Some, List, [], ◌∷◌, ◌++◌, length, get_or, take, map, inl, inr, sym, ◌∙◌, ap, subst, arith}
use Rattle.std.specs.List.{AllByRecursion}
use Rattle.std.proofs.lemmas.List.{map-append}
use Rattle.ips_text.specs.Kept.{Kept}
use Rattle.ips_text.proofs.Lists.{all_append, map_item, take_item}
use Rattle.ips_fmri.specs.Name.{IsStem}
use Rattle.ips_fmri.specs.declared.fmri.Fmri.{Fmri}
use Rattle.ips_manifest.specs.Manifest.{IsManifestOf}
use Rattle.ips_records.specs.Form.{IsNamed, HasVersion}
use Rattle.ips_manifest.specs.declared.package.Package.{Package}
use Rattle.ips_outside.specs.Image.{Image}
use Rattle.ips_state.specs.State.{Installed, installed}
use Rattle.ips_state.specs.Form.{IsPackage}
use Rattle.ips_state.specs.Text.{package_head, versioned_stem}
use Rattle.ips_state.specs.Records.{manifest_path, package_path}
use Rattle.ips_load.specs.Held.{HoldsManifest, HoldsPackage, Stands}
use Rattle.ips_load.specs.Fault.{IsBadManifest, IsChildFault, IsChildrenFault, IsFileFault, IsManifestsFault, IsPackageChild}
use Rattle.ips_load.specs.declared.fault.StateFault.{StateFault}
use Rattle.ips_packages.specs.Placed.{places}

-- equal lists begin and go on alike
head_same : {A : Type 0} {x y : A} {xs ys : List A} → x ∷ xs ≡ y ∷ ys → x ≡ y
head_same e = cc

tail_same : {A : Type 0} {x y : A} {xs ys : List A} → x ∷ xs ≡ y ∷ ys → xs ≡ ys
tail_same e = cc

-- one more package
shown_more : (old new : List Package) (p : Package) → new ≡ old ++ p ∷ [] → map installed new ≡ map installed old ++ installed p ∷ []
shown_more old new p e = ap (map installed) e ∙ map-append installed old (p ∷ [])

pub all_more : (P : Installed → Type 0) (old new : List Package) (p : Package) → new ≡ old ++ p ∷ [] → AllByRecursion P (map installed old) → P (installed p) → AllByRecursion P (map installed new)
all_more P old new p e all one = subst (AllByRecursion P) (sym (shown_more old new p e)) (all_append P (map installed old) (installed p ∷ []) all (one, tt))

-- ---- by their names

pub names_more : (names : List Fmri) (i : ℕ) (name : Fmri) (old new : List Package) (p : Package) → i < length names → name ≡ get_or names i name → new ≡ old ++ p ∷ []
    → map versioned_stem (map installed old) ≡ take i names → versioned_stem (installed p) ≡ name → map versioned_stem (map installed new) ≡ take (i + 1) names
names_more names i name old new p lt at e all one =
    ap (map versioned_stem) (shown_more old new p e) ∙ map-append versioned_stem (map installed old) (installed p ∷ []) ∙ (λ j. all j ++ one j ∷ []) ∙ sym (take_item names i name lt at)

pub manifest_fault : (t : Image) (names : List Fmri) (i : ℕ) (name : Fmri) (packages : List Installed) (f : StateFault) → i < length names → name ≡ get_or names i name → map versioned_stem packages ≡ take i names
    → AllByRecursion (HoldsManifest t) packages → IsFileFault IsBadManifest t (manifest_path name.stem) f → IsManifestsFault t names f
manifest_fault t [] i name packages f lt at all held bad = absurd (omega (arith, lt))
manifest_fault t (n ∷ names) zero name packages f lt at all held bad = inl (subst (λ (m : Fmri). IsFileFault IsBadManifest t (manifest_path m.stem) f) at bad)
manifest_fault t (n ∷ names) (suc i) name [] f lt at all held bad = absurd cc
manifest_fault t (n ∷ names) (suc i) name (p ∷ packages) f lt at all held bad =
    inr ((p, head_same all, held.0), manifest_fault t names i name packages f (omega (arith, lt)) at (tail_same all) held.1 bad)

-- ---- by the places of their records

pub places_more : (children : List Kept) (i : ℕ) (child : Kept) (old new : List Package) (p : Package) → i < length children → child ≡ get_or children i child → new ≡ old ++ p ∷ []
    → places (map installed old) ≡ map (λ (c : Kept). c.bytes) (take i children) → child.bytes ≡ package_path p.stem → places (map installed new) ≡ map (λ (c : Kept). c.bytes) (take (i + 1) children)
places_more children i child old new p lt at e all one =
    ap places (shown_more old new p e) ∙ map-append (λ (q : Installed). package_path q.stem) (map installed old) (installed p ∷ []) ∙ (λ j. all j ++ sym one j ∷ []) ∙ sym (map_item (λ (c : Kept). c.bytes) children i child lt at)

-- the paths are the records of these packages
pub all_records : (t : Image) (paths : List (List ℕ)) (packages : List Installed) → places packages ≡ paths → AllByRecursion IsPackage packages → AllByRecursion (HoldsPackage t) packages → AllByRecursion (IsPackageChild t) paths
all_records t [] packages all fit held = tt
all_records t (path ∷ paths) [] all fit held = absurd cc
all_records t (path ∷ paths) (p ∷ packages) all fit held = ((p, fit.0.stem, fit.0.version, sym (head_same all), held.0), all_records t paths packages (tail_same all) fit.1 held.1)

pub child_fault : (t : Image) (children : List Kept) (i : ℕ) (child : Kept) (packages : List Installed) (f : StateFault) → i < length children → child ≡ get_or children i child → places packages ≡ map (λ (c : Kept). c.bytes) (take i children)
    → AllByRecursion IsPackage packages → AllByRecursion (HoldsPackage t) packages → IsChildFault t child.bytes f → IsChildrenFault t (map (λ (c : Kept). c.bytes) children) f
child_fault t [] i child packages f lt at all fit held bad = absurd (omega (arith, lt))
child_fault t (c ∷ children) zero child packages f lt at all fit held bad = inl (subst (λ (k : Kept). IsChildFault t k.bytes f) at bad)
child_fault t (c ∷ children) (suc i) child [] f lt at all fit held bad = absurd cc
child_fault t (c ∷ children) (suc i) child (p ∷ packages) f lt at all fit held bad =
    inr ((p, fit.0.stem, fit.0.version, sym (head_same all), held.0), child_fault t children i child packages f (omega (arith, lt)) at (tail_same all) fit.1 held.1 bad)

-- ---- a package of a name

pub name_shown : (f : Fmri) (p : Installed) → IsNamed f → p.stem ≡ f.stem → f.version ≡ Some p.version → versioned_stem p ≡ f
name_shown f p h s v = λ j. record { publisher = sym h.publisher j; stem = s j; version = sym v j }

pub package_of_name : (f : Fmri) (p : Installed) → IsNamed f → p.stem ≡ f.stem → f.version ≡ Some p.version → ((text : List ℕ) × IsManifestOf text p.lines) → IsPackage p
package_of_name f p h s v m = record { stem = subst (IsStem false) (sym s) h.stem; version = subst HasVersion v h.version; manifest = m }

pub manifest_held : (t : Image) (path stem : List ℕ) (p : Installed) → path ≡ manifest_path stem → p.stem ≡ stem → ((text : List ℕ) × Stands t path text × IsManifestOf text p.lines) → HoldsManifest t p
manifest_held t path stem p at s m = record {
  text = m.0;
  stands = subst (λ (q : List ℕ). Stands t q m.0) (at ∙ ap manifest_path (sym s)) m.1;
  means = m.2;
}

-- ---- a package of a record

pub record_held : (t : Image) (path bytes : List ℕ) (p : Installed) → path ≡ package_path p.stem → Stands t path bytes → ((text : List ℕ) × (bytes ≡ package_head p.version ++ text) × IsManifestOf text p.lines) → HoldsPackage t p
record_held t path bytes p at stands m = record {
  text = m.0;
  stands = subst (λ (q : List ℕ). Stands t q (package_head p.version ++ m.0)) at (subst (Stands t path) m.1 stands);
  means = m.2;
}
