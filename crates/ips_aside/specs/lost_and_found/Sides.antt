-- What a look finds at a side name.
use Rattle.std.specs.Prelude.{Bool, true, false}
use Rattle.ips_outside.specs.declared.outside.Look.{Look}
use Rattle.ips_outside.specs.declared.outside.Look.TheVariants as look

-- a look found something other than a file or a symbolic link
abbrev pub dir_or_other_looked : Look → Bool
dir_or_other_looked look.Absent = false
dir_or_other_looked (look.Dir mode) = true
dir_or_other_looked (look.File mode size) = false
dir_or_other_looked look.Link = false
dir_or_other_looked look.Other = true
