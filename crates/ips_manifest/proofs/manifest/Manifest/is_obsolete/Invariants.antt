use Rattle.std.proofs.Common.{◌≡◌, false, take}
use Rattle.std.specs.List.{list_any}
use Rattle.ips_manifest.specs.Manifest as spec
use Rattle.ips_manifest.proofs.manifest.Manifest.is_obsolete.Given as goal

abbrev pub invariant-loop-line : goal.invariant-loop-line
invariant-loop-line l = list_any (λ line. spec.tells_obsolete line.action) (take l.line-index l.self.lines.items) ≡ false
