use Rattle.std.proofs.Common.{◌≡◌, take, map}
use Rattle.ips_catalog.specs.Seen.{seen}
use Rattle.ips_catalog.specs.Listed.{count_of}
use Rattle.ips_catalog.proofs.catalog.total.Given as goal

abbrev pub invariant-loop-package : goal.invariant-loop-package
invariant-loop-package l = l.count ≡ count_of (map seen (take l.package-index l.packages))
