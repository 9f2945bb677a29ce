-- Where a root of the host stands.
use Rattle.std.specs.Prelude.{ℕ, List}
use Rattle.ips_host.specs.declared.root.Root.{Root}
use Rattle.ips_host.specs.declared.root.Devices.{Devices}

-- The path of the host at which the root stands.
abbrev pub root_path : {F A : Type 0} → Root F A → List ℕ
root_path root = root.ways.root

-- On which devices the directories may be that lead to what is below the root.
abbrev pub root_devices : {F A : Type 0} → Root F A → Devices
root_devices root = root.ways.devices
