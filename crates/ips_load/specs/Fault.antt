-- Why the records of an image can't be loaded.
use Rattle.std.specs.Prelude.{◌≡◌, ◌⊎◌, ℕ, zero, suc, ◌+◌, ◌<◌, ◌≤◌, Bool, true, false, ◌==◌, IsTrue, List, [], ◌∷◌, ◌++◌, map, length, Option, Some, None, codes}
use Rattle.std.specs.List.{AllByRecursion}
use Rattle.ips_text.specs.declared.limits.Which.{Which}
use Rattle.ips_text.specs.declared.limits.Which.TheVariants.{ImageFileBytes}
use Rattle.ips_fmri.specs.Name.{IsStem}
use Rattle.ips_fmri.specs.Version.{Parts, IsVersion, version_text}
use Rattle.ips_fmri.specs.declared.fmri.Fmri.{Fmri}
use Rattle.ips_outside.specs.Image.{Image, is_dir}
use Rattle.ips_outside.specs.Children.{AreChildren, is_foreign}
use Rattle.ips_manifest.specs.Manifest.{IsManifestOf, IsFaultOf}
use Rattle.ips_manifest.specs.declared.fault.ManifestFault.{ManifestFault}
use Rattle.ips_mediate.specs.declared.set.SetMediator.{SetMediator}
use Rattle.ips_text.specs.declared.refusal.Or.{Or}
use Rattle.ips_text.specs.declared.refusal.Or.TheVariants.{Bad, OutOfMemory}
use Rattle.ips_files.specs.Files.{file_at, HasSize}
use Rattle.ips_files.specs.declared.reading.FileFault.{FileFault}
use Rattle.ips_files.specs.declared.reading.FileFault.TheVariants as file
use Rattle.ips_state.specs.State.{Installed, Head}
use Rattle.ips_records.specs.Lines.{ended, lines_text, lines_in, IsFirstBadLine}
use Rattle.ips_state.specs.Text.{head_lines, versioned_stem, name_lines, mediator_line, package_head}
use Rattle.ips_records.specs.Form.{IsRequestLine}
use Rattle.ips_state.specs.Lawful.{IsHead, AreStems, AreVersioned, AreMediators}
use Rattle.ips_state.specs.Records.{image_path, installed_path, avoid_path, freeze_path, mediators_path, history_path, packages_path, manifest_path, package_path}
use Rattle.ips_load.specs.Held.{record_limit, Stands, HoldsManifest, HoldsPackage}
use Rattle.ips_load.specs.declared.fault.StateFault.{StateFault}
use Rattle.ips_load.specs.declared.fault.StateFault.TheVariants.{NoImage, BadImage, TooLarge, FolderFault}

-- ---- the lines of each kind of file, each with its newline

-- The file `image`.
abbrev pub IsHeadFile : List (List ℕ) → Type 0
IsHeadFile lines = (h : Head) × IsHead h × (lines ≡ map ended (head_lines h))

-- Stems, one a line.
abbrev pub IsStemsFile : List (List ℕ) → Type 0
IsStemsFile lines = (stems : List (List ℕ)) × AreStems stems × (lines ≡ map ended stems)

-- Stems at a version, one a line.
abbrev pub IsNamesFile : List (List ℕ) → Type 0
IsNamesFile lines = (names : List Fmri) × AreVersioned names × (lines ≡ map ended (name_lines names))

-- Settings of mediators, one a line.
abbrev pub IsMediatorsFile : List (List ℕ) → Type 0
IsMediatorsFile lines = (mediators : List SetMediator) × AreMediators mediators × (lines ≡ map ended (map mediator_line mediators))

-- Requests, one a line.
abbrev pub IsHistoryFile : List (List ℕ) → Type 0
IsHistoryFile lines = (history : List (List ℕ)) × AllByRecursion IsRequestLine history × (lines ≡ map ended history)

-- ---- where a text goes wrong

-- The first line at which a text of lines isn't of a kind.
abbrev pub IsBadText : (List (List ℕ) → Type 0) → List ℕ → ℕ → Type 0
IsBadText IsFile text line = IsFirstBadLine IsFile (lines_in text) line

-- The line of the first fault of a manifest.
abbrev pub IsBadManifest : List ℕ → ℕ → Type 0
IsBadManifest text line = (fault : ManifestFault) × IsFaultOf text fault × (line ≡ fault.line)

-- The first line at which a text isn't the record of a package: the first, the second, or that of its manifest's fault.
abbrev pub IsBadPackage : List ℕ → ℕ → Type 0
IsBadPackage text zero = ⊥
IsBadPackage text (suc zero) = (rest : List ℕ) → text ≡ ended (codes "package 2") ++ rest → ⊥
IsBadPackage text (suc (suc zero)) = ((rest : List ℕ) × (text ≡ ended (codes "package 2") ++ rest)) × ((v : Parts) (rest : List ℕ) → IsVersion v → text ≡ package_head v ++ rest → ⊥)
IsBadPackage text (suc (suc (suc line))) = (v : Parts) × (manifest : List ℕ) × IsVersion v × (text ≡ package_head v ++ manifest) × IsBadManifest manifest (suc line)

-- ---- why a file can't be read

-- The line that is told of a file: 0 where there is none, and else the one at which its text goes wrong.
abbrev pub IsBadLine : (List ℕ → ℕ → Type 0) → Option (List ℕ) → ℕ → Type 0
IsBadLine IsBad None line = line ≡ 0
IsBadLine IsBad (Some text) line = (length text ≤ record_limit) × IsBad text line

-- The record at a path isn't read, whatever its lines: no file stands there, or it is too large; or a call failed.
abbrev pub IsUnread : Image → List ℕ → StateFault → Type 0
IsUnread t path NoImage = ⊥
IsUnread t path (BadImage file line) = (file.bytes ≡ path) × (line ≡ 0) × (file_at t path ≡ None)
IsUnread t path (TooLarge which count) = (which ≡ ImageFileBytes) × HasSize (file_at t path) count × (record_limit < count)
IsUnread t path FolderFault = Unit {0}

-- Why the file at a path can't be read: it is bad at a line, or too large. A call that failed says nothing of the file.
abbrev pub IsFileFault : (List ℕ → ℕ → Type 0) → Image → List ℕ → StateFault → Type 0
IsFileFault IsBad t path NoImage = ⊥
IsFileFault IsBad t path (BadImage file line) = (file.bytes ≡ path) × IsBadLine IsBad (file_at t path) line
IsFileFault IsBad t path (TooLarge which count) = (which ≡ ImageFileBytes) × HasSize (file_at t path) count × (record_limit < count)
IsFileFault IsBad t path FolderFault = Unit {0}

-- Why the file `image` can't be read: nothing stands there, or as any other.
abbrev pub IsHeadFault : Image → StateFault → Type 0
IsHeadFault t NoImage = t.look image_path ≡ None
IsHeadFault t (BadImage file line) = (t.look image_path ≡ None → ⊥) × IsFileFault (IsBadText IsHeadFile) t image_path (BadImage file line)
IsHeadFault t (TooLarge which count) = IsFileFault (IsBadText IsHeadFile) t image_path (TooLarge which count)
IsHeadFault t FolderFault = Unit {0}

-- The path is told, at line 0; or a call failed.
abbrev pub IsNoFile : List ℕ → StateFault → Type 0
IsNoFile path NoImage = ⊥
IsNoFile path (BadImage file line) = (file.bytes ≡ path) × (line ≡ 0)
IsNoFile path (TooLarge which count) = ⊥
IsNoFile path FolderFault = Unit {0}

-- A fact about a fault, unless memory ran out.
abbrev pub IfFault : Or StateFault → (StateFault → Type 0) → Type 0
IfFault (Bad f) P = P f
IfFault OutOfMemory P = Unit {0}

-- The fault tells this line of the file.
abbrev pub TellsLine : List ℕ → ℕ → StateFault → Type 0
TellsLine path line NoImage = ⊥
TellsLine path line (BadImage file n) = (file.bytes ≡ path) × (n ≡ line)
TellsLine path line (TooLarge which count) = ⊥
TellsLine path line FolderFault = ⊥

-- The fault of a record by that of reading its file: line 0 where there is none.
abbrev pub IsFaultFor : FileFault → List ℕ → Or StateFault → Type 0
IsFaultFor file.Missing path e = IfFault e (TellsLine path 0)
IsFaultFor (file.TooLarge count) path e = e ≡ Bad (TooLarge ImageFileBytes count)
IsFaultFor file.SourceFault path e = e ≡ Bad FolderFault

-- ---- the first file at fault, in the order in which they are loaded

-- The first manifest that can't be read, by the order of the packages.
abbrev pub IsManifestsFault : Image → List Fmri → StateFault → Type 0
IsManifestsFault t [] f = ⊥
IsManifestsFault t (name ∷ names) f = IsFileFault IsBadManifest t (manifest_path name.stem) f
    ⊎ (((p : Installed) × (versioned_stem p ≡ name) × HoldsManifest t p) × IsManifestsFault t names f)

-- The path is the place of a stem's record.
abbrev pub IsPackagePlace : List ℕ → Type 0
IsPackagePlace path = (stem : List ℕ) × IsStem false stem × (path ≡ package_path stem)

-- Why a child of the folder of packages can't be read: its name is no quoted stem, or as any other file.
abbrev pub IsChildFault : Image → List ℕ → StateFault → Type 0
IsChildFault t child f = ((IsPackagePlace child → ⊥) × IsNoFile child f) ⊎ (IsPackagePlace child × IsFileFault IsBadPackage t child f)

-- The child is the record of a package.
abbrev pub IsPackageChild : Image → List ℕ → Type 0
IsPackageChild t child = (p : Installed) × IsStem false p.stem × IsVersion p.version × (child ≡ package_path p.stem) × HoldsPackage t p

-- The first child that can't be read.
abbrev pub IsChildrenFault : Image → List (List ℕ) → StateFault → Type 0
IsChildrenFault t [] f = ⊥
IsChildrenFault t (child ∷ children) f = IsChildFault t child f ⊎ (IsPackageChild t child × IsChildrenFault t children f)

-- The folder of packages is a directory that has no foreign child.
abbrev pub IsFolder : Image → Type 0
IsFolder t = IsTrue (is_dir (t.look packages_path)) × (is_foreign (t.look packages_path) ≡ false)

-- Why the packages of format 2 can't be read: there is no such folder, or one of its children, the first by bytes, can't be.
abbrev pub IsFolderFault : Image → StateFault → Type 0
IsFolderFault t f = ((IsFolder t → ⊥) × IsNoFile packages_path f)
    ⊎ (IsFolder t × ((children : List (List ℕ)) × AreChildren t packages_path children × IsChildrenFault t children f))

-- The folder of packages is one, and each child is the record of a package.
abbrev pub HasRecords : Image → Type 0
HasRecords t = IsFolder t × ((children : List (List ℕ)) × AreChildren t packages_path children × AllByRecursion (IsPackageChild t) children)

-- A file of lines of this kind stands at the path.
abbrev pub StandsAs : (List (List ℕ) → Type 0) → Image → List ℕ → Type 0
StandsAs IsFile t path = (lines : List (List ℕ)) × IsFile (map ended lines) × Stands t path (lines_text lines)

-- Why one of the files behind the packages can't be read: the stems that are avoided, the freezes, the mediators, the history.
abbrev pub IsListFault : Image → StateFault → Type 0
IsListFault t f = IsFileFault (IsBadText IsStemsFile) t avoid_path f
    ⊎ (StandsAs IsStemsFile t avoid_path × (IsFileFault (IsBadText IsNamesFile) t freeze_path f
    ⊎ (StandsAs IsNamesFile t freeze_path × (IsFileFault (IsBadText IsMediatorsFile) t mediators_path f
    ⊎ (StandsAs IsMediatorsFile t mediators_path × IsFileFault (IsBadText IsHistoryFile) t history_path f)))))

-- All these files are as they should be.
abbrev pub HoldsLists : Image → Type 0
HoldsLists t = StandsAs IsStemsFile t avoid_path × StandsAs IsNamesFile t freeze_path × StandsAs IsMediatorsFile t mediators_path × StandsAs IsHistoryFile t history_path

-- Why what stands behind the file `image` can't be read, in the format that the flag tells. Format 1 has the list of packages
-- first and their manifests last, format 2 has its packages first.
abbrev pub IsRestFault : Bool → Image → StateFault → Type 0
IsRestFault true t f = IsFileFault (IsBadText IsNamesFile) t installed_path f
    ⊎ ((names : List Fmri) × AreVersioned names × Stands t installed_path (lines_text (name_lines names)) × (IsListFault t f ⊎ (HoldsLists t × IsManifestsFault t names f)))
IsRestFault false t f = IsFolderFault t f
    ⊎ (HasRecords t × IsListFault t f)
