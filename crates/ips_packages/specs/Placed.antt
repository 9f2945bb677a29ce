-- Where the records of packages stand, and which line behind their heads is bad.
use Rattle.std.specs.Prelude.{◌≡◌, ◌⊎◌, ℕ, zero, suc, List, map}
use Rattle.ips_state.specs.State.{Installed}
use Rattle.ips_state.specs.Records.{package_path}
use Rattle.ips_outside.specs.Image.{Image}
use Rattle.ips_load.specs.Fault.{IsBadManifest, IsFolderFault}
use Rattle.ips_load.specs.declared.fault.StateFault.{StateFault}
use Rattle.ips_load.specs.declared.fault.StateFault.TheVariants.{FolderFault}

-- Where the records of packages stand.
abbrev pub places : List Installed → List (List ℕ)
places packages = map (λ p. package_path p.stem) packages

-- Why the packages of format 2 can't be loaded: a call failed, which says nothing of them, or their folder can't be read.
abbrev pub IsPackagesFault : Image → StateFault → Type 0
IsPackagesFault t f = (f ≡ FolderFault) ⊎ IsFolderFault t f

-- A bad line of the manifest, counted behind two lines that stand before it.
abbrev pub IsBadBehind : List ℕ → ℕ → Type 0
IsBadBehind text zero = ⊥
IsBadBehind text (suc zero) = ⊥
IsBadBehind text (suc (suc zero)) = ⊥
IsBadBehind text (suc (suc (suc line))) = IsBadManifest text (suc line)
