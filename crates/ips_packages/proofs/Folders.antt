-- The folder of packages: what it holds, and why it can't be read.
use Rattle.std.proofs.Common.{◌≡◌, ◌↔◌, ℕ, Bool, true, false, ◌||◌, not, IsTrue, List, [], ◌∷◌, map, arith, inl, inr, Result, Err, refl, sym, ◌∙◌, ap, subst}
use Rattle.std.specs.List.{AllByRecursion, list_any}
use Rattle.std.specs.List.Sorted.{IsPermutation}
use Rattle.std.proofs.lemmas.Bool.{false≢true, true≢false}
use Rattle.std.specs.Prelude.{codes}
use Rattle.ips_text.specs.Ancestry.{same_path}
use Rattle.ips_text.specs.Path.{IsPath}
use Rattle.ips_text.specs.declared.refusal.Or.{Or}
use Rattle.ips_text.specs.Reading.{IfBad}
use Rattle.ips_manifest.specs.declared.package.Package.{Package}
use Rattle.ips_outside.specs.Image.{Image, is_dir}
use Rattle.ips_outside.specs.Children.{AreChildren, is_foreign}
use Rattle.ips_records.proofs.Joined.{joined_path, pkg_name}
use Rattle.ips_state.specs.State.{Ascend, installed}
use Rattle.ips_state.specs.Form.{IsPackage}
use Rattle.ips_state.specs.Lawful.{ArePackages}
use Rattle.ips_state.specs.Records.{packages_path}
use Rattle.ips_load.specs.Held.{HoldsFolder, HoldsPackage}
use Rattle.ips_load.specs.Fault.{HasRecords, IfFault, IsChildrenFault, IsFolderFault, IsNoFile, TellsLine}
use Rattle.ips_load.specs.declared.fault.StateFault.{StateFault}
use Rattle.ips_load.specs.declared.fault.StateFault.TheVariants.{NoImage, BadImage, TooLarge, FolderFault}
use Rattle.ips_load.proofs.Unread.{as_bad, fault_weaker}
use Rattle.ips_packages.specs.Placed.{IsPackagesFault, places}
use Rattle.ips_packages.proofs.Loaded.{all_records}
use Rattle.ips_packages.proofs.Sorting.{all_moved, any_moved, stems_shown}

-- ---- what it holds

pub folder_held : (t : Image) (dir : List ℕ) (children : List (List ℕ)) (old new : List Package) → dir ≡ packages_path → IsTrue (is_dir (t.look dir)) → is_foreign (t.look dir) ≡ false → AreChildren t dir children
    → places (map installed old) ≡ children → IsPermutation old new → AllByRecursion (HoldsPackage t) (map installed old) → HoldsFolder t (map installed new)
folder_held t dir children old new at is native are all moved held = record {
  folder = subst (λ (d : List ℕ). IsTrue (is_dir (t.look d))) at is;
  native = subst (λ (d : List ℕ). is_foreign (t.look d) ≡ false) at native;
  each = all_moved (HoldsPackage t) old new moved held;
  only = λ path child. sym (any_moved path old new moved) ∙ ap (list_any (λ (q : List ℕ). same_path q path)) all ∙ (subst (λ (d : List ℕ). AreChildren t d children) at are).each path ∙ child;
}

pub folder_records : (t : Image) (dir : List ℕ) (children : List (List ℕ)) (packages : List Package) → dir ≡ packages_path → IsTrue (is_dir (t.look dir)) → is_foreign (t.look dir) ≡ false → AreChildren t dir children → places (map installed packages) ≡ children
    → AllByRecursion IsPackage (map installed packages) → AllByRecursion (HoldsPackage t) (map installed packages) → HasRecords t
folder_records t dir children packages at is native are all fit held = (
  (subst (λ (d : List ℕ). IsTrue (is_dir (t.look d))) at is, subst (λ (d : List ℕ). is_foreign (t.look d) ≡ false) at native),
  (children, subst (λ (d : List ℕ). AreChildren t d children) at are, all_records t children (map installed packages) all fit held),
)

pub packages_told : (old new : List Package) → IsPermutation old new → AllByRecursion IsPackage (map installed old) → Ascend (stems_shown new) → ArePackages (map installed new)
packages_told old new moved fit order = record { each = all_moved IsPackage old new moved fit; order = order }

-- ---- why it can't be read

nothing_told : (path : List ℕ) (f : StateFault) → TellsLine path 0 f → IsNoFile path f
nothing_told path NoImage h = h
nothing_told path (BadImage file line) h = h
nothing_told path (TooLarge which count) h = h
nothing_told path FolderFault h = absurd h

no_directory : (t : Image) (dir : List ℕ) (f : StateFault) → dir ≡ packages_path → is_dir (t.look dir) ≡ false → TellsLine dir 0 f → IsFolderFault t f
no_directory t dir f at none h = inl (
  λ folder. false≢true (sym none ∙ ap (λ (d : List ℕ). is_dir (t.look d)) at ∙ folder.0),
  subst (λ (d : List ℕ). IsNoFile d f) at (nothing_told dir f h),
)

foreign_there : (t : Image) (dir : List ℕ) (f : StateFault) → dir ≡ packages_path → is_foreign (t.look dir) ≡ true → TellsLine dir 0 f → IsFolderFault t f
foreign_there t dir f at foreign h = inl (
  λ folder. true≢false (sym foreign ∙ ap (λ (d : List ℕ). is_foreign (t.look d)) at ∙ folder.1),
  subst (λ (d : List ℕ). IsNoFile d f) at (nothing_told dir f h),
)

pub directory_missing : (X : Type 0) (t : Image) (dir : List ℕ) (e : Or StateFault) → dir ≡ packages_path → is_dir (t.look dir) ≡ false → IfFault e (TellsLine dir 0) → (let r : Result X (Or StateFault) = Err e in IfBad r (IsPackagesFault t))
directory_missing X t dir e at none h = as_bad X e (IsPackagesFault t) (fault_weaker e (TellsLine dir 0) (IsPackagesFault t) (λ f told. inr (no_directory t dir f at none told)) h)

-- a folder that tells what it holds lists its children in order, so that none but a foreign child is left
pub listing_refused : (X : Type 0) (t : Image) (dir : List ℕ) (children : List (List ℕ)) (foreign ordered : Bool) (e : Or StateFault) → dir ≡ packages_path → foreign ≡ is_foreign (t.look dir) → AreChildren t dir children
    → IsTrue ordered ↔ Ascend children → (foreign || not ordered) ≡ true → IfFault e (TellsLine dir 0) → (let r : Result X (Or StateFault) = Err e in IfBad r (IsPackagesFault t))
listing_refused X t dir children true ordered e at is are tells refused h = as_bad X e (IsPackagesFault t) (fault_weaker e (TellsLine dir 0) (IsPackagesFault t) (λ f told. inr (foreign_there t dir f at (sym is) told)) h)
listing_refused X t dir children false true e at is are tells refused h = absurd (false≢true refused)
listing_refused X t dir children false false e at is are tells refused h = absurd (false≢true (tells.1 are.order))

pub native_order : (foreign ordered : Bool) → (foreign || not ordered) ≡ false → (foreign ≡ false) × (ordered ≡ true)
native_order true ordered e = absurd (true≢false e)
native_order false true e = (refl, refl)
native_order false false e = absurd (true≢false e)

pub children_fault : (t : Image) (dir : List ℕ) (children : List (List ℕ)) (f : StateFault) → dir ≡ packages_path → IsTrue (is_dir (t.look dir)) → is_foreign (t.look dir) ≡ false → AreChildren t dir children → IsChildrenFault t children f → IsPackagesFault t f
children_fault t dir children f at is native are bad = inr (inr (
  (subst (λ (d : List ℕ). IsTrue (is_dir (t.look d))) at is, subst (λ (d : List ℕ). is_foreign (t.look d) ≡ false) at native),
  (children, subst (λ (d : List ℕ). AreChildren t d children) at are, bad),
))

pub call_failed : (t : Image) → IsPackagesFault t FolderFault
call_failed t = inl refl

-- ---- its path

pub packages_is_path : IsPath packages_path
packages_is_path = joined_path (codes "var" ∷ codes "pkg" ∷ codes "packages" ∷ []) (record { bytes = refl; some = omega arith; few = omega arith; no_dots = refl }, (pkg_name, record { bytes = refl; some = omega arith; few = omega arith; no_dots = refl })) (omega arith)
