-- When two faults of an image's records are one.
use Rattle.std.specs.Prelude.{◌≡◌}
use Rattle.ips_load.specs.declared.fault.StateFault.{StateFault}
use Rattle.ips_load.specs.declared.fault.StateFault.TheVariants.{NoImage, BadImage, TooLarge, FolderFault}

-- The faults are one: of one file, by the bytes of its path, at one line; or one count beyond one limit.
abbrev pub IsSameFault : StateFault → StateFault → Type 0
IsSameFault NoImage NoImage = Unit {0}
IsSameFault (BadImage file line) (BadImage other number) = (file.bytes ≡ other.bytes) × (line ≡ number)
IsSameFault (TooLarge which count) (TooLarge other number) = (which ≡ other) × (count ≡ number)
IsSameFault FolderFault FolderFault = Unit {0}
IsSameFault f g = ⊥

-- a record is at fault, and no call failed
abbrev pub IsOfRecord : StateFault → Type 0
IsOfRecord f = f ≡ FolderFault → ⊥
