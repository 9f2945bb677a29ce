use Rattle.std.proofs.Common.{◌≡◌, ℕ, ◌||◌, List, map, take}
use Rattle.ips_state.specs.State.{installed}
use Rattle.ips_request.specs.Named.{installed_stems}
use Rattle.ips_request.specs.Stems.{has}
use Rattle.ips_request.proofs.known.add_installed.Given as goal

abbrev pub invariant-loop-package : goal.invariant-loop-package
invariant-loop-package l = (stem : List ℕ) → has stem l.known.keys ≡ (has stem (installed_stems (map installed (take l.package-index l.packages))) || has stem l.initial.known.keys)
