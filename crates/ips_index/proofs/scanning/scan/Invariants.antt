use Rattle.std.proofs.Common.{◌≡◌, take}
use Rattle.ips_index.specs.Rows.{scanned}
use Rattle.ips_index.specs.Entries.{AreFit}
use Rattle.ips_index.proofs.scanning.scan.Given as goal

abbrev pub invariant-loop-action : goal.invariant-loop-action
invariant-loop-action l = (l.entries.items ≡ scanned l.stem (take l.action-index l.actions)) × AreFit l.entries.items
