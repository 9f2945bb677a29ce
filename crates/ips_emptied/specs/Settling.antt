-- What becomes of a path by what account files and records say of it, or else by what becomes of it without.
use Rattle.std.specs.Prelude.{Bool, true, false, Option, Some, None}
use Rattle.ips_after.specs.Change as after
use Rattle.ips_change.specs.declared.survey.said.Said.{Said}
use Rattle.ips_change.specs.declared.survey.said.Said.TheVariants.{Lays, Takes}

-- what stands goes, or something takes its place
abbrev pub replaces_by : Option Said → after.Change → Bool
replaces_by (Some Lays) c = true
replaces_by (Some Takes) c = true
replaces_by None c = after.replaces c

-- something is made
abbrev pub makes_by : Option Said → after.Change → Bool
makes_by (Some Lays) c = true
makes_by (Some Takes) c = false
makes_by None c = after.makes c
