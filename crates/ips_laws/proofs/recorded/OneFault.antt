-- The records of an image have one first fault.
use Rattle.std.proofs.Common.{◌≡◌, ◌⊎◌, inl, inr, ℕ, zero, suc, ◌+◌, ◌<◌, Bool, true, false, ◌==◌, List, [], ◌∷◌, ◌++◌, length, Option, Some, None, refl, sym, ◌∙◌, ap, subst, arith, append_assoc}
use Rattle.std.specs.List.{AllByRecursion}
use Rattle.std.specs.Prelude.{codes, IfSome}
use Rattle.ips_fmri.specs.declared.fmri.Fmri.{Fmri}
use Rattle.ips_fmri.specs.Version.{Parts, version_text}
use Rattle.ips_outside.specs.Image.{Image, file_bytes}
use Rattle.ips_outside.specs.Children.{AreChildren}
use Rattle.ips_files.specs.Files.{HasSize, file_at}
use Rattle.ips_index.specs.Rows.{IndexedValue}
use Rattle.ips_index.specs.Text.{AreIndexRows, IsIndexFile}
use Rattle.ips_manifest.specs.declared.fault.ManifestFault.{ManifestFault}
use Rattle.ips_manifest.specs.Logical.{Logical, lines_of}
use Rattle.ips_manifest.specs.Manifest.{IsFaultAt, IsFirstIn}
use Rattle.ips_records.specs.Lines.{BeginsFile, IsFirstBadLine, StopsFile, ended, lines_in, lines_text}
use Rattle.ips_state.specs.Lawful.{AreVersioned, IsHead}
use Rattle.ips_state.specs.State.{Head, Installed}
use Rattle.ips_state.specs.Text.{head_lines, name_lines, package_head, versioned_stem}
use Rattle.ips_state.specs.Records.{avoid_path, freeze_path, history_path, image_path, index_path, installed_path, manifest_path, mediators_path, package_path, packages_path}
use Rattle.ips_load.specs.Fault.{HasRecords, HoldsLists, IsBadLine, IsBadManifest, IsBadPackage, IsBadText, IsChildFault, IsChildrenFault, IsFileFault, IsFolder, IsFolderFault, IsHeadFault, IsHeadFile, IsHistoryFile, IsListFault, IsManifestsFault, IsMediatorsFile, IsNamesFile, IsNoFile, IsPackageChild, IsPackagePlace, IsRestFault, IsStemsFile, StandsAs}
use Rattle.ips_load.specs.Held.{HoldsIndex, HoldsManifest, Stands, record_limit}
use Rattle.ips_load.specs.declared.fault.StateFault.{StateFault}
use Rattle.ips_load.specs.declared.fault.StateFault.TheVariants.{NoImage, BadImage, TooLarge, FolderFault}
use Rattle.ips_load.proofs.OneText.{names_one}
use Rattle.ips_image.specs.Fault.{IsIndexFault, IsSearchFault}
use Rattle.ips_image.specs.Whole.{HoldsRest, IsBehindFault, IsFilesFault, IsStateFault}
use Rattle.ips_entries.proofs.HeldOnce.{file_one, none_stands}
use Rattle.ips_entries.proofs.OneHead.{head_one}
use Rattle.ips_entries.proofs.OnePackage.{record_one}
use Rattle.ips_entries.proofs.OneState.{ascend_one}
use Rattle.ips_laws.specs.recorded.Same.{IsOfRecord, IsSameFault}
use Rattle.ips_laws.proofs.recorded.NoFault.{file_stays, no_bad_manifest, no_bad_package, no_head_fault, no_index_fault, no_line_fault, no_list_fault, no_rest_fault, single_head, single_mediators, single_names, single_stems, stays_as}

-- ---- the first bad line of a text

-- a file can't begin with more lines than those behind which none goes on
no_longer : (IsFile : List (List ℕ) → Type 0) (f r g s : List (List ℕ)) → f ++ r ≡ g ++ s → StopsFile IsFile f r → BeginsFile IsFile g → length f < length g → ⊥
no_longer IsFile [] r [] s e stop begin short = omega (arith, short)
no_longer IsFile [] [] (y ∷ g) s e stop begin short = absurd cc
no_longer IsFile [] (line ∷ r) (y ∷ g) s e stop begin short =
    let head : line ≡ y = cc in
    stop (g ++ begin.0, subst (λ (z : List ℕ). IsFile (z ∷ (g ++ begin.0))) (sym head) begin.1)
no_longer IsFile (x ∷ f) r [] s e stop begin short = omega (arith, short)
no_longer IsFile (x ∷ f) r (y ∷ g) s e stop begin short =
    let head : x ≡ y = cc in
    let tail : f ++ r ≡ g ++ s = cc in
    no_longer (λ l. IsFile (x ∷ l)) f r g s tail (inner r stop) (begin.0, subst (λ (z : List ℕ). IsFile (z ∷ (g ++ begin.0))) (sym head) begin.1) (omega (arith, short))
  where
    inner : (l : List (List ℕ)) → StopsFile IsFile (x ∷ f) l → StopsFile (λ k. IsFile (x ∷ k)) f l
    inner [] stops = stops
    inner (line ∷ rest) stops = stops

line_one : (IsFile : List (List ℕ) → Type 0) (lines : List (List ℕ)) (n m : ℕ) → IsFirstBadLine IsFile lines n → IsFirstBadLine IsFile lines m → n ≡ m
line_one IsFile lines n m a b =
    let here = no_longer IsFile a.front a.rest b.front b.rest (sym a.cut ∙ b.cut) a.stops b.begins in
    let there = no_longer IsFile b.front b.rest a.front a.rest (sym b.cut ∙ a.cut) b.stops a.begins in
    a.place ∙ ap (λ (k : ℕ). k + 1) (same_number (length a.front) (length b.front) here there) ∙ sym b.place
  where
    same_number : (k l : ℕ) → (k < l → ⊥) → (l < k → ⊥) → k ≡ l
    same_number k l less more = omega (arith, less, more)

text_one : (IsFile : List (List ℕ) → Type 0) (text : List ℕ) (n m : ℕ) → IsBadText IsFile text n → IsBadText IsFile text m → n ≡ m
text_one IsFile text n m a b = line_one IsFile (lines_in text) n m a b

-- ---- the first fault of a manifest, and of the record of a package

at_one : (unreadable : Option ℕ) (l : Logical) (f g : ManifestFault) → IsFaultAt unreadable l f → IsFaultAt unreadable l g → f.line ≡ g.line
at_one (Some number) l f g a b = a.0 ∙ sym b.0
at_one None l f g a b = a.1 ∙ sym b.1

first_one : (ls : List Logical) (f g : ManifestFault) → IsFirstIn ls f → IsFirstIn ls g → f.line ≡ g.line
first_one [] f g a b = absurd a
first_one (l ∷ ls) f g (inl a) (inl b) = at_one l.unreadable l f g a b
first_one (l ∷ ls) f g (inl a) (inr b) = absurd (no_line_fault l l.unreadable _ b.0.0 f refl refl b.0.1.0 b.0.1.1 a)
first_one (l ∷ ls) f g (inr a) (inl b) = absurd (no_line_fault l l.unreadable _ a.0.0 g refl refl a.0.1.0 a.0.1.1 b)
first_one (l ∷ ls) f g (inr a) (inr b) = first_one ls f g a.1 b.1

manifest_one : (text : List ℕ) (n m : ℕ) → IsBadManifest text n → IsBadManifest text m → n ≡ m
manifest_one text n m a b = a.2 ∙ first_one (lines_of text) a.0 b.0 a.1 b.1 ∙ sym b.2

headed : (text : List ℕ) (v : Parts) (manifest : List ℕ) → text ≡ package_head v ++ manifest → text ≡ ended (codes "package 2") ++ (ended (codes "version " ++ version_text v) ++ manifest)
headed text v manifest e = e ∙ append_assoc (ended (codes "package 2")) (ended (codes "version " ++ version_text v)) manifest

package_one : (text : List ℕ) (n m : ℕ) → IsBadPackage text n → IsBadPackage text m → n ≡ m
package_one text zero m a b = absurd a
package_one text (suc n) zero a b = absurd b
package_one text (suc zero) (suc zero) a b = refl
package_one text (suc zero) (suc (suc zero)) a b = absurd (a b.0.0 b.0.1)
package_one text (suc zero) (suc (suc (suc m))) a b = absurd (a _ (headed text b.0 b.1 b.3))
package_one text (suc (suc zero)) (suc zero) a b = absurd (b a.0.0 a.0.1)
package_one text (suc (suc zero)) (suc (suc zero)) a b = refl
package_one text (suc (suc zero)) (suc (suc (suc m))) a b = absurd (a.1 b.0 b.1 b.2 b.3)
package_one text (suc (suc (suc n))) (suc zero) a b = absurd (b _ (headed text a.0 a.1 a.3))
package_one text (suc (suc (suc n))) (suc (suc zero)) a b = absurd (b.1 a.0 a.1 a.2 a.3)
package_one text (suc (suc (suc n))) (suc (suc (suc m))) a b =
    let same = record_one a.0 b.0 a.1 b.1 a.2 b.2 (sym a.3 ∙ b.3) in
    ap (λ (k : ℕ). suc (suc k)) (manifest_one b.1 (suc n) (suc m) (subst (λ (x : List ℕ). IsBadManifest x (suc n)) same.1 a.4) b.4)

-- ---- the fault of a file

-- two faults of this kind that are no calls' are one
abbrev AreOne : (StateFault → Type 0) → Type 0
AreOne Is = (f g : StateFault) → Is f → Is g → IsOfRecord f → IsOfRecord g → IsSameFault f g

-- such a fault is that of a call
abbrev IsNone : (StateFault → Type 0) → Type 0
IsNone Is = (f : StateFault) → Is f → f ≡ FolderFault

module _ (Wrong : List ℕ → ℕ → Type 0) (one : (text : List ℕ) (n m : ℕ) → Wrong text n → Wrong text m → n ≡ m) where
  same_line : (file : Option (List ℕ)) (n m : ℕ) → IsBadLine Wrong file n → IsBadLine Wrong file m → n ≡ m
  same_line None n m a b = a ∙ sym b
  same_line (Some text) n m a b = one text n m a.1 b.1

  not_large : (file : Option (List ℕ)) (n count : ℕ) → IsBadLine Wrong file n → HasSize file count → record_limit < count → ⊥
  not_large None n count a size above = size
  not_large (Some text) n count a size above = let few = a.0 in omega (arith, few, size, above)

  same_count : (file : Option (List ℕ)) (n m : ℕ) → HasSize file n → HasSize file m → n ≡ m
  same_count None n m a b = absurd a
  same_count (Some text) n m a b = sym a ∙ b

  file_fault_one : (t : Image) (path : List ℕ) → AreOne (IsFileFault Wrong t path)
  file_fault_one t path NoImage g a b f_not g_not = absurd a
  file_fault_one t path (BadImage file line) NoImage a b f_not g_not = absurd b
  file_fault_one t path (BadImage file line) (BadImage other number) a b f_not g_not = (a.0 ∙ sym b.0, same_line (file_at t path) line number a.1 b.1)
  file_fault_one t path (BadImage file line) (TooLarge which count) a b f_not g_not = absurd (not_large (file_at t path) line count a.1 b.1 b.2)
  file_fault_one t path (BadImage file line) FolderFault a b f_not g_not = absurd (g_not refl)
  file_fault_one t path (TooLarge which count) NoImage a b f_not g_not = absurd b
  file_fault_one t path (TooLarge which count) (BadImage file line) a b f_not g_not = absurd (not_large (file_at t path) line count b.1 a.1 a.2)
  file_fault_one t path (TooLarge which count) (TooLarge other number) a b f_not g_not = (a.0 ∙ sym b.0, same_count (file_at t path) count number a.1 b.1)
  file_fault_one t path (TooLarge which count) FolderFault a b f_not g_not = absurd (g_not refl)
  file_fault_one t path FolderFault g a b f_not g_not = absurd (f_not refl)

no_file_one : (path : List ℕ) → AreOne (IsNoFile path)
no_file_one path NoImage g a b f_not g_not = absurd a
no_file_one path (BadImage file line) NoImage a b f_not g_not = absurd b
no_file_one path (BadImage file line) (BadImage other number) a b f_not g_not = (a.0 ∙ sym b.0, a.1 ∙ sym b.1)
no_file_one path (BadImage file line) (TooLarge which count) a b f_not g_not = absurd b
no_file_one path (BadImage file line) FolderFault a b f_not g_not = absurd (g_not refl)
no_file_one path (TooLarge which count) g a b f_not g_not = absurd a
no_file_one path FolderFault g a b f_not g_not = absurd (f_not refl)

-- ---- one file after another

-- the first of two is at fault, or it is good and the second is
then_one : (First Later : StateFault → Type 0) (Good : Type 0) → AreOne First → AreOne Later → (Good → IsNone First) → AreOne (λ f. First f ⊎ (Good × Later f))
then_one First Later Good first later good f g (inl a) (inl b) f_not g_not = first f g a b f_not g_not
then_one First Later Good first later good f g (inl a) (inr b) f_not g_not = absurd (f_not (good b.0 f a))
then_one First Later Good first later good f g (inr a) (inl b) f_not g_not = absurd (g_not (good a.0 g b))
then_one First Later Good first later good f g (inr a) (inr b) f_not g_not = later f g a.1 b.1 f_not g_not

-- it is one of two that exclude each other
either_one : (Here : Type 0) (First Second : StateFault → Type 0) → AreOne First → AreOne Second → AreOne (λ f. ((Here → ⊥) × First f) ⊎ (Here × Second f))
either_one Here First Second first second f g (inl a) (inl b) f_not g_not = first f g a.1 b.1 f_not g_not
either_one Here First Second first second f g (inl a) (inr b) f_not g_not = absurd (a.0 b.0)
either_one Here First Second first second f g (inr a) (inl b) f_not g_not = absurd (b.0 a.0)
either_one Here First Second first second f g (inr a) (inr b) f_not g_not = second f g a.1 b.1 f_not g_not

module _ (t : Image) where
  lines_one : (IsFile : List (List ℕ) → Type 0) (path : List ℕ) → AreOne (IsFileFault (IsBadText IsFile) t path)
  lines_one IsFile path = file_fault_one (IsBadText IsFile) (text_one IsFile) t path

  list_one : AreOne (IsListFault t)
  list_one =
      then_one (IsFileFault (IsBadText IsStemsFile) t avoid_path) _ (StandsAs IsStemsFile t avoid_path) (lines_one IsStemsFile avoid_path)
      (then_one (IsFileFault (IsBadText IsNamesFile) t freeze_path) _ (StandsAs IsNamesFile t freeze_path) (lines_one IsNamesFile freeze_path)
      (then_one (IsFileFault (IsBadText IsMediatorsFile) t mediators_path) (IsFileFault (IsBadText IsHistoryFile) t history_path) (StandsAs IsMediatorsFile t mediators_path) (lines_one IsMediatorsFile mediators_path)
      (lines_one IsHistoryFile history_path)
      (λ s f bad. stays_as IsMediatorsFile single_mediators t mediators_path f s bad))
      (λ s f bad. stays_as IsNamesFile single_names t freeze_path f s bad))
      (λ s f bad. stays_as IsStemsFile single_stems t avoid_path f s bad)

  manifests_one : (names : List Fmri) → AreOne (IsManifestsFault t names)
  manifests_one [] f g a b f_not g_not = absurd a
  manifests_one (name ∷ names) f g a b f_not g_not =
      then_one (IsFileFault IsBadManifest t (manifest_path name.stem)) (IsManifestsFault t names) ((p : Installed) × (versioned_stem p ≡ name) × HoldsManifest t p)
      (file_fault_one IsBadManifest manifest_one t (manifest_path name.stem)) (manifests_one names) held f g a b f_not g_not
    where
      held : (p : Installed) × (versioned_stem p ≡ name) × HoldsManifest t p → IsNone (IsFileFault IsBadManifest t (manifest_path name.stem))
      held (p, is, stands) f bad =
          file_stays IsBadManifest t (manifest_path p.stem) stands.text f stands.stands (no_bad_manifest stands.text p.lines stands.means)
          (subst (λ (n : Fmri). IsFileFault IsBadManifest t (manifest_path n.stem) f) (sym is) bad)

  child_good : (child : List ℕ) → IsPackageChild t child → IsNone (IsChildFault t child)
  child_good child good f (inl other) = absurd (other.0 (good.0.stem, good.1, good.3))
  child_good child good f (inr wrong) =
      file_stays IsBadPackage t (package_path good.0.stem) (package_head good.0.version ++ good.4.text) f good.4.stands (no_bad_package good.0.version good.4.text good.0.lines good.2 good.4.means)
      (subst (λ (x : List ℕ). IsFileFault IsBadPackage t x f) good.3 wrong.1)

  children_one : (children : List (List ℕ)) → AreOne (IsChildrenFault t children)
  children_one [] f g a b f_not g_not = absurd a
  children_one (child ∷ children) f g a b f_not g_not =
      then_one (IsChildFault t child) (IsChildrenFault t children) (IsPackageChild t child)
      (either_one (IsPackagePlace child) (IsNoFile child) (IsFileFault IsBadPackage t child) (no_file_one child) (file_fault_one IsBadPackage package_one t child))
      (children_one children) (child_good child) f g a b f_not g_not

  one_listing : (xs ys : List (List ℕ)) → AreChildren t packages_path xs → AreChildren t packages_path ys → xs ≡ ys
  one_listing xs ys a b = ascend_one xs ys a.order b.order (λ q is. b.each q ∙ sym (a.each q) ∙ is) (λ q is. a.each q ∙ sym (b.each q) ∙ is)

  abbrev IsListedFault : StateFault → Type 0
  IsListedFault f = (children : List (List ℕ)) × AreChildren t packages_path children × IsChildrenFault t children f

  listed_one : AreOne IsListedFault
  listed_one f g (xs, a, bad) (ys, b, wrong) f_not g_not =
      children_one ys f g (subst (λ (l : List (List ℕ)). IsChildrenFault t l f) (one_listing xs ys a b) bad) wrong f_not g_not

  folder_one : AreOne (IsFolderFault t)
  folder_one = either_one (IsFolder t) (IsNoFile packages_path) IsListedFault (no_file_one packages_path) listed_one

  children_good : (children : List (List ℕ)) → AllByRecursion (IsPackageChild t) children → IsNone (IsChildrenFault t children)
  children_good [] all f bad = absurd bad
  children_good (child ∷ children) all f (inl here) = child_good child all.0 f here
  children_good (child ∷ children) all f (inr later) = children_good children all.1 f later.1

  folder_good : HasRecords t → IsNone (IsFolderFault t)
  folder_good good f (inl missing) = absurd (missing.0 good.0)
  folder_good good f (inr wrong) = children_good wrong.1.0 (subst (AllByRecursion (IsPackageChild t)) (one_listing good.1.0 wrong.1.0 good.1.1 wrong.1.1) good.1.2) f wrong.1.2

  -- behind the list of packages of the first format
  abbrev IsNamedFault : StateFault → Type 0
  IsNamedFault f = (names : List Fmri) × AreVersioned names × Stands t installed_path (lines_text (name_lines names)) × (IsListFault t f ⊎ (HoldsLists t × IsManifestsFault t names f))

  named_one : AreOne IsNamedFault
  named_one f g (xs, are, a, bad) (ys, were, b, wrong) f_not g_not =
      let same = names_one xs ys are were (file_one t installed_path (lines_text (name_lines xs)) (lines_text (name_lines ys)) a.file b.file) in
      then_one (IsListFault t) (IsManifestsFault t ys) (HoldsLists t) list_one (manifests_one ys) (λ held f bad. no_list_fault t f held bad) f g
      (subst (λ (l : List Fmri). IsListFault t f ⊎ (HoldsLists t × IsManifestsFault t l f)) same bad) wrong f_not g_not

  list_stands : (names : List Fmri) → AreVersioned names → Stands t installed_path (lines_text (name_lines names)) → IsNone (IsFileFault (IsBadText IsNamesFile) t installed_path)
  list_stands names are stands f bad = stays_as IsNamesFile single_names t installed_path f (name_lines names, (names, are, refl), stands) bad

  rest_one : (first : Bool) → AreOne (IsRestFault first t)
  rest_one true f g (inl a) (inl b) f_not g_not = lines_one IsNamesFile installed_path f g a b f_not g_not
  rest_one true f g (inl a) (inr b) f_not g_not = absurd (f_not (list_stands b.0 b.1 b.2 f a))
  rest_one true f g (inr a) (inl b) f_not g_not = absurd (g_not (list_stands a.0 a.1 a.2 g b))
  rest_one true f g (inr a) (inr b) f_not g_not = named_one f g a b f_not g_not
  rest_one false f g a b f_not g_not = then_one (IsFolderFault t) (IsListFault t) (HasRecords t) folder_one list_one folder_good f g a b f_not g_not

  index_fault_one : AreOne (IsIndexFault t)
  index_fault_one NoImage g a b f_not g_not = absurd a
  index_fault_one (BadImage file line) NoImage a b f_not g_not = absurd b
  index_fault_one (BadImage file line) (BadImage other number) a b f_not g_not = lines_one IsIndexFile index_path (BadImage file line) (BadImage other number) a.1 b.1 f_not g_not
  index_fault_one (BadImage file line) (TooLarge which count) a b f_not g_not = lines_one IsIndexFile index_path (BadImage file line) (TooLarge which count) a.1 b f_not g_not
  index_fault_one (BadImage file line) FolderFault a b f_not g_not = absurd (g_not refl)
  index_fault_one (TooLarge which count) NoImage a b f_not g_not = absurd b
  index_fault_one (TooLarge which count) (BadImage file line) a b f_not g_not = lines_one IsIndexFile index_path (TooLarge which count) (BadImage file line) a b.1 f_not g_not
  index_fault_one (TooLarge which count) (TooLarge other number) a b f_not g_not = lines_one IsIndexFile index_path (TooLarge which count) (TooLarge other number) a b f_not g_not
  index_fault_one (TooLarge which count) FolderFault a b f_not g_not = absurd (g_not refl)
  index_fault_one FolderFault g a b f_not g_not = absurd (f_not refl)

  -- nothing stands there, and so no file does
  no_size : (path : List ℕ) (count : ℕ) → t.look path ≡ None → HasSize (file_at t path) count → ⊥
  no_size path count none size = subst (λ (o : Option (List ℕ)). HasSize o count) (ap file_bytes none) size

  head_fault_one : AreOne (IsHeadFault t)
  head_fault_one NoImage NoImage a b f_not g_not = tt
  head_fault_one NoImage (BadImage other number) a b f_not g_not = absurd (b.0 a)
  head_fault_one NoImage (TooLarge which count) a b f_not g_not = absurd (no_size image_path count a b.1)
  head_fault_one NoImage FolderFault a b f_not g_not = absurd (g_not refl)
  head_fault_one (BadImage file line) NoImage a b f_not g_not = absurd (a.0 b)
  head_fault_one (BadImage file line) (BadImage other number) a b f_not g_not = lines_one IsHeadFile image_path (BadImage file line) (BadImage other number) a.1 b.1 f_not g_not
  head_fault_one (BadImage file line) (TooLarge which count) a b f_not g_not = lines_one IsHeadFile image_path (BadImage file line) (TooLarge which count) a.1 b f_not g_not
  head_fault_one (BadImage file line) FolderFault a b f_not g_not = absurd (g_not refl)
  head_fault_one (TooLarge which count) NoImage a b f_not g_not = absurd (no_size image_path count b a.1)
  head_fault_one (TooLarge which count) (BadImage file line) a b f_not g_not = lines_one IsHeadFile image_path (TooLarge which count) (BadImage file line) a b.1 f_not g_not
  head_fault_one (TooLarge which count) (TooLarge other number) a b f_not g_not = lines_one IsHeadFile image_path (TooLarge which count) (TooLarge other number) a b f_not g_not
  head_fault_one (TooLarge which count) FolderFault a b f_not g_not = absurd (g_not refl)
  head_fault_one FolderFault g a b f_not g_not = absurd (f_not refl)

  files_one : (first : Bool) → AreOne (IsFilesFault first t)
  files_one first f g (inl call) b f_not g_not = absurd (f_not call)
  files_one first f g (inr a) (inl call) f_not g_not = absurd (g_not call)
  files_one first f g (inr a) (inr b) f_not g_not = rest_one first f g a b f_not g_not

  files_good : (first : Bool) → HoldsRest first t → IsNone (IsFilesFault first t)
  files_good first good f (inl call) = call
  files_good first good f (inr bad) = no_rest_fault t first good.0.0 f good.0.1 good.0.2 good.1 bad

  behind_one : (first : Bool) → AreOne (IsBehindFault first t)
  behind_one first = then_one (IsFilesFault first t) (IsIndexFault t) (HoldsRest first t) (files_one first) index_fault_one (files_good first)

  -- the file `image` is good, and something behind it is at fault
  abbrev IsFaultBehind : StateFault → Type 0
  IsFaultBehind f = (h : Head) × IsHead h × Stands t image_path (lines_text (head_lines h)) × IsBehindFault (h.format == 1) t f

  headed_one : AreOne IsFaultBehind
  headed_one f g (h, is, a, bad) (k, was, b, wrong) f_not g_not =
      let same = head_one h k is was (file_one t image_path (lines_text (head_lines h)) (lines_text (head_lines k)) a.file b.file) in
      behind_one (k.format == 1) f g (subst (λ (x : Head). IsBehindFault (x.format == 1) t f) same bad) wrong f_not g_not

  pub state_fault_one : AreOne (IsStateFault t)
  state_fault_one f g (inl a) (inl b) f_not g_not = head_fault_one f g a b f_not g_not
  state_fault_one f g (inl a) (inr b) f_not g_not = absurd (f_not (no_head_fault t b.0 f b.1 b.2 a))
  state_fault_one f g (inr a) (inl b) f_not g_not = absurd (g_not (no_head_fault t a.0 g a.1 a.2 b))
  state_fault_one f g (inr a) (inr b) f_not g_not = headed_one f g a b f_not g_not

  head_good : StandsAs IsHeadFile t image_path → IsNone (IsHeadFault t)
  head_good s NoImage bad = absurd (none_stands t image_path (lines_text s.0) bad s.2.file)
  head_good s (BadImage file line) bad = stays_as IsHeadFile single_head t image_path (BadImage file line) s bad.1
  head_good s (TooLarge which count) bad = stays_as IsHeadFile single_head t image_path (TooLarge which count) s bad
  head_good s FolderFault bad = refl

  pub search_fault_one : AreOne (IsSearchFault t)
  search_fault_one = then_one (IsHeadFault t) (IsIndexFault t) (StandsAs IsHeadFile t image_path) head_fault_one index_fault_one head_good

  pub searched_good : (o : Option (List IndexedValue)) → StandsAs IsHeadFile t image_path → IfSome o AreIndexRows → HoldsIndex t o → IsNone (IsSearchFault t)
  searched_good o s are holds f (inl head) = head_good s f head
  searched_good o s are holds f (inr index) = no_index_fault t o f are holds index.1
