-- What kind a look found.
use Rattle.std.specs.Prelude.{Bool, true, false}
use Rattle.ips_outside.specs.declared.outside.Look.{Look}
use Rattle.ips_outside.specs.declared.outside.Look.TheVariants as look
use Rattle.ips_change.specs.declared.stands.Stands.{Stands}
use Rattle.ips_change.specs.declared.stands.Stands.TheVariants as stands

-- a directory was found
abbrev pub is_dir_looked : Look → Bool
is_dir_looked look.Absent = false
is_dir_looked (look.Dir mode) = true
is_dir_looked (look.File mode size) = false
is_dir_looked look.Link = false
is_dir_looked look.Other = false

-- a file was found
abbrev pub is_file_looked : Look → Bool
is_file_looked look.Absent = false
is_file_looked (look.Dir mode) = false
is_file_looked (look.File mode size) = true
is_file_looked look.Link = false
is_file_looked look.Other = false

-- no one has looked
abbrev pub is_unlooked : Stands → Bool
is_unlooked stands.Unasked = true
is_unlooked stands.Absent = false
is_unlooked (stands.Dir m) = false
is_unlooked (stands.File m known fresh) = false
is_unlooked (stands.Link wanted) = false
is_unlooked stands.Other = false
