-- What is found damaged, as the calls tell it.
use Rattle.ips_meaning.specs.declared.finding.Damage.{Damage}
use Rattle.ips_meaning.specs.declared.finding.Damage.TheVariants as told
use Rattle.ips_meaning.specs.declared.finding.Finding as told_finding
use Rattle.ips_after.specs.Findings as after
use Rattle.ips_after.specs.Findings.{Finding}

-- damage as it is told
abbrev pub damage_told : Damage → after.Damage
damage_told told.Missing = after.Missing
damage_told told.WrongKind = after.WrongKind
damage_told told.WrongContent = after.WrongContent
damage_told told.WrongMode = after.WrongMode
damage_told told.WrongTarget = after.WrongTarget
damage_told told.NotSame = after.NotSame

-- a finding as it is told
abbrev pub finding_told : told_finding.Finding → Finding
finding_told f = record { path = f.path.bytes; damage = damage_told f.damage }
