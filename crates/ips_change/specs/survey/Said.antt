-- What account files and records say of a path.
use Rattle.std.specs.Prelude.{Bool, true, false, Option, Some, None}
use Rattle.ips_outside.specs.Image.{Entry}
use Rattle.ips_change.specs.declared.survey.said.Said.{Said}
use Rattle.ips_change.specs.declared.survey.said.Said.TheVariants.{Lays, Takes}

-- what is said, by what is laid or taken away
abbrev pub said_as : Option (Option Entry) → Option Said
said_as None = None
said_as (Some None) = Some Takes
said_as (Some (Some e)) = Some Lays

-- an entry is laid
abbrev pub says_laid : Option Said → Bool
says_laid (Some Lays) = true
says_laid (Some Takes) = false
says_laid None = false
