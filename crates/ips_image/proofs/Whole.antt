-- The whole state, file by file.
use Rattle.std.proofs.Common.{◌≡◌, ℕ, Bool, true, false, List, [], ◌∷◌, map, Result, Ok, Err, OnOk, arith, codes, inl, inr, refl, sym, ◌∙◌, ap, subst}
use Rattle.std.specs.List.{AllByRecursion}
use Rattle.std.proofs.lemmas.Simd.{map-map}
use Rattle.ips_text.specs.Path.{IsPath}
use Rattle.ips_outside.specs.Image.{Image}
use Rattle.ips_records.proofs.Joined.{joined_path, pkg_name}
use Rattle.ips_fmri.specs.declared.fmri.Fmri.{Fmri}
use Rattle.ips_records.specs.Lines.{lines_text}
use Rattle.ips_state.specs.State.{Ascend, Installed}
use Rattle.ips_state.specs.Form.{IsPackage}
use Rattle.ips_state.specs.Text.{mediator_line, name_lines, versioned_stem}
use Rattle.ips_state.specs.Lawful.{ArePackages, AreVersioned}
use Rattle.ips_state.specs.Records.{installed_path}
use Rattle.ips_load.specs.Held.{HoldsListed, HoldsManifest, HoldsPackages, Stands}
use Rattle.ips_load.specs.Fault as files
use Rattle.ips_load.specs.Fault.{HasRecords, IsBadText, IsFileFault, IsListFault, IsManifestsFault, IsNamesFile, IsRestFault}
use Rattle.ips_load.specs.declared.fault.StateFault.{StateFault}
use Rattle.ips_packages.specs.Placed.{IsPackagesFault}
use Rattle.ips_image.specs.declared.lists.Lists.{Lists}
use Rattle.ips_image.specs.Held.{AreLists, HoldsLists}
use Rattle.ips_image.specs.Whole.{HoldsRest, IsFilesFault, IsNamedFault}

-- the lists that are read stand as files of their kinds
pub lists_stand : (t : Image) (l : Lists) → AreLists l → HoldsLists t l → files.HoldsLists t
lists_stand t l are held = (
  (l.avoid.items, (l.avoid.items, are.avoid, refl), held.avoid),
  (name_lines l.freeze.items, (l.freeze.items, are.freeze, refl), held.freeze),
  (map mediator_line l.mediators.items, (l.mediators.items, are.mediators, refl), held.mediators),
  (l.history.items, (l.history.items, are.history, refl), held.history),
)

-- ---- format 1

-- packages of lawful names ascend by their stems
pub named_packages : (names : List Fmri) (packages : List Installed) → AreVersioned names → map versioned_stem packages ≡ names → AllByRecursion IsPackage packages → ArePackages packages
named_packages names packages are all each = record {
  each = each;
  order = subst Ascend (ap (map (λ (f : Fmri). f.stem)) (sym all) ∙ map-map (λ (f : Fmri). f.stem) versioned_stem packages) are.order;
}

pub listed_held : (t : Image) (path : List ℕ) (names : List Fmri) (packages : List Installed) → path ≡ installed_path → Stands t path (lines_text (name_lines names)) → map versioned_stem packages ≡ names
    → AllByRecursion (HoldsManifest t) packages → HoldsListed t packages
listed_held t path names packages at stands all each = record {
  names = subst (λ (l : List Fmri). Stands t installed_path (lines_text (name_lines l))) (sym all) (subst (λ (q : List ℕ). Stands t q (lines_text (name_lines names))) at stands);
  each = each;
}

pub names_fault : (t : Image) (path : List ℕ) (f : StateFault) → path ≡ installed_path → IsFileFault (IsBadText IsNamesFile) t path f → IsRestFault true t f
names_fault t path f at bad = inl (subst (λ (q : List ℕ). IsFileFault (IsBadText IsNamesFile) t q f) at bad)

pub named_fault : (t : Image) (path : List ℕ) (names : List Fmri) (f : StateFault) → path ≡ installed_path → AreVersioned names → Stands t path (lines_text (name_lines names)) → IsNamedFault names t f → IsRestFault true t f
named_fault t path names f at are stands bad = inr (names, are, subst (λ (q : List ℕ). Stands t q (lines_text (name_lines names))) at stands, bad)

-- ---- all behind the file `image`

pub rest_held : (first : Bool) (t : Image) (packages : List Installed) (l : Lists) → ArePackages packages → HoldsPackages first t packages → AreLists l → HoldsLists t l → HoldsRest first t
rest_held first t packages l fit held are stand = ((packages, fit, held), lists_stand t l are stand)

-- ---- in another image that is the same

pub packages_kept : (first : Bool) (t u : Image) (packages : List Installed) → t ≡ u → HoldsPackages first t packages → HoldsPackages first u packages
packages_kept first t u packages same held = subst (λ (x : Image). HoldsPackages first x packages) same held

-- ---- faults

-- those of the packages of format 2
pub packages_fault : (t : Image) (f : StateFault) → IsPackagesFault t f → IsFilesFault false t f
packages_fault t f (inl failed) = inl failed
packages_fault t f (inr bad) = inr (inl bad)

pub lists_fault : (t : Image) (f : StateFault) → HasRecords t → IsListFault t f → IsFilesFault false t f
lists_fault t f records bad = inr (inr (records, bad))

-- ---- answers

pub on_both : {X E : Type 0} (r : Result X E) (A B C : Type 0) → (A → B → C) → OnOk r A → OnOk r B → OnOk r C
on_both (Ok x) A B C to a b = to a b
on_both (Err e) A B C to a b = tt

-- ---- the path of the list of packages

pub installed_is_path : IsPath installed_path
installed_is_path = joined_path (codes "var" ∷ codes "pkg" ∷ codes "installed" ∷ []) (record { bytes = refl; some = omega arith; few = omega arith; no_dots = refl }, (pkg_name, record { bytes = refl; some = omega arith; few = omega arith; no_dots = refl })) (omega arith)
