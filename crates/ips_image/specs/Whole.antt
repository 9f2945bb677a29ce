-- When the whole state of an image can be loaded, and why not.
use Rattle.std.specs.Prelude.{◌≡◌, ◌⊎◌, ◌==◌, Bool, List, Option, IfSome}
use Rattle.ips_outside.specs.Image.{Image}
use Rattle.ips_fmri.specs.declared.fmri.Fmri.{Fmri}
use Rattle.ips_index.specs.Rows.{IndexedValue}
use Rattle.ips_index.specs.Text.{AreIndexRows}
use Rattle.ips_records.specs.Lines.{lines_text}
use Rattle.ips_state.specs.State.{Head, Installed}
use Rattle.ips_state.specs.Text.{head_lines}
use Rattle.ips_state.specs.Lawful.{ArePackages, IsHead}
use Rattle.ips_state.specs.Records.{image_path}
use Rattle.ips_load.specs.Held.{HoldsIndex, HoldsPackages, Stands}
use Rattle.ips_load.specs.Fault as files
use Rattle.ips_load.specs.Fault.{IsHeadFault, IsListFault, IsManifestsFault, IsRestFault}
use Rattle.ips_load.specs.declared.fault.StateFault.{StateFault}
use Rattle.ips_load.specs.declared.fault.StateFault.TheVariants.{FolderFault}
use Rattle.ips_image.specs.declared.lists.Lists.{Lists}
use Rattle.ips_image.specs.Held.{AreLists, HoldsLists}
use Rattle.ips_image.specs.Fault.{IsIndexFault}

-- The lists and the index are such that the grammars of their files have texts for them.
abbrev pub AreBehind : Lists × Option (List IndexedValue) → Type 0
AreBehind x = AreLists x.0 × IfSome x.1 AreIndexRows

-- The lists and the index stand in their files.
abbrev pub HoldsBehind : Image → Lists × Option (List IndexedValue) → Type 0
HoldsBehind t x = HoldsLists t x.0 × HoldsIndex t x.1

-- Why the lists, or the manifests of these packages behind them, can't be read.
abbrev pub IsNamedFault : List Fmri → Image → StateFault → Type 0
IsNamedFault names t f = IsListFault t f ⊎ (files.HoldsLists t × IsManifestsFault t names f)

-- The packages, in the format that the flag tells, and the lists are as they should be.
abbrev pub HoldsRest : Bool → Image → Type 0
HoldsRest first t = ((packages : List Installed) × ArePackages packages × HoldsPackages first t packages) × files.HoldsLists t

-- Why the packages, in the format that the flag tells, or the lists can't be read: a call failed, which says nothing of them, or a
-- file is at fault.
abbrev pub IsFilesFault : Bool → Image → StateFault → Type 0
IsFilesFault first t f = (f ≡ FolderFault) ⊎ IsRestFault first t f

-- Why what stands behind the file `image` can't be read, in the format that the flag tells: the packages and the lists, and the
-- index last.
abbrev pub IsBehindFault : Bool → Image → StateFault → Type 0
IsBehindFault first t f = IsFilesFault first t f ⊎ (HoldsRest first t × IsIndexFault t f)

-- Why the state of an image can't be loaded: the fault of the first file that has one.
abbrev pub IsStateFault : Image → StateFault → Type 0
IsStateFault t f = IsHeadFault t f ⊎ ((h : Head) × IsHead h × Stands t image_path (lines_text (head_lines h)) × IsBehindFault (h.format == 1) t f)
