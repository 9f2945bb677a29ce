-- For which folder of the host an image or a repository stands.
use Rattle.std.specs.Prelude.{ℕ, List}
use Rattle.ips_host.specs.Rooted.{root_path, root_devices}
use Rattle.ips_host.specs.declared.root.Devices.{Devices}
use Rattle.ips_host.specs.declared.folder.HostFolder.{HostFolder}
use Rattle.ips_host.specs.declared.source.HostSource.{HostSource}

-- The path of the host below which the files of the image are.
abbrev pub image_root : {R F D A P I O E : Type 0} → HostFolder R F D A P I O E → List ℕ
image_root folder = root_path folder.root

-- On which devices the directories of the image may be.
abbrev pub image_devices : {R F D A P I O E : Type 0} → HostFolder R F D A P I O E → Devices
image_devices folder = root_devices folder.root

-- The path of the host below which the files of the repository are.
abbrev pub repository_root : {R F D A : Type 0} → HostSource R F D A → List ℕ
repository_root source = root_path source.root
