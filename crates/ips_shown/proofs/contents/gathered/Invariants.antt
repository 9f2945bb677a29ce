use Rattle.std.proofs.Common.{◌↔◌, ℕ, List, take}
use Rattle.std.specs.Prelude.{Contains}
use Rattle.ips_shown.specs.Shown.{ArePaths, Delivers}
use Rattle.ips_shown.proofs.contents.gathered.Given as goal

abbrev pub invariant-loop-line : goal.invariant-loop-line
invariant-loop-line l = ((path : List ℕ) → Contains l.paths.items path ↔ Delivers l.settings (take l.line-index l.lines) path) × ArePaths l.paths.items
