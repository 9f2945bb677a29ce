-- Why the index can't be loaded.
use Rattle.std.specs.Prelude.{◌≡◌, ◌⊎◌, None}
use Rattle.ips_outside.specs.Image.{Image}
use Rattle.ips_index.specs.Text.{IsIndexFile}
use Rattle.ips_state.specs.Records.{image_path, index_path}
use Rattle.ips_load.specs.Fault.{IsBadText, IsFileFault, IsHeadFile, IsHeadFault, StandsAs}
use Rattle.ips_load.specs.declared.fault.StateFault.{StateFault}
use Rattle.ips_load.specs.declared.fault.StateFault.TheVariants.{NoImage, BadImage, TooLarge, FolderFault}

-- Why the record of the index can't be read: something stands there, and it is as any other.
abbrev pub IsIndexFault : Image → StateFault → Type 0
IsIndexFault t NoImage = ⊥
IsIndexFault t (BadImage file line) = (t.look index_path ≡ None → ⊥) × IsFileFault (IsBadText IsIndexFile) t index_path (BadImage file line)
IsIndexFault t (TooLarge which count) = IsFileFault (IsBadText IsIndexFile) t index_path (TooLarge which count)
IsIndexFault t FolderFault = Unit {0}

-- Why a search can't be made: the file `image` can't be read, or it can and the index can't.
abbrev pub IsSearchFault : Image → StateFault → Type 0
IsSearchFault t f = IsHeadFault t f ⊎ (StandsAs IsHeadFile t image_path × IsIndexFault t f)
