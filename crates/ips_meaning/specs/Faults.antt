-- Which fault is told. Only `want` uses it.
use Rattle.std.specs.Prelude.{Option, Some, None}
use Rattle.ips_text.specs.declared.path.RelPath.{RelPath}
use Rattle.ips_conflict.specs.declared.clashing.Clash.{Clash}
use Rattle.ips_meaning.specs.declared.fault.WantFault.{WantFault}
use Rattle.ips_meaning.specs.declared.fault.WantFault.TheVariants as fault

-- A reserved path comes before a clash.
abbrev pub fault_told : Option RelPath → Option Clash → Option WantFault
fault_told (Some path) clash = Some (fault.Reserved path)
fault_told None (Some clash) = Some (fault.Clash clash)
fault_told None None = None
