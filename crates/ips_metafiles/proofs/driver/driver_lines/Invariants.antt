use Rattle.std.proofs.Common.{take}
use Rattle.ips_metafiles.proofs.DriverLines.{HasLines}
use Rattle.ips_metafiles.proofs.driver.driver_lines.Given as goal

abbrev pub invariant-loop-action : goal.invariant-loop-action
invariant-loop-action l = HasLines (take l.action-index l.actions) l.lines
