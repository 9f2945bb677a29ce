-- On which devices the directories may be that lead to what is below a root.
use Rattle.std.specs.Prelude.{ℕ, Bool, true, false, ◌==◌}
use Rattle.ips_host.specs.declared.root.Devices.{Devices}
use Rattle.ips_host.specs.declared.root.Devices.TheVariants.{Any, OfRoot, One}

-- Whether a directory on the device may be one of those: on any, or on that of the root, which is none while it isn't asked for.
abbrev pub is_among : Devices → ℕ → Bool
is_among Any device = true
is_among OfRoot device = false
is_among (One only) device = device == only
