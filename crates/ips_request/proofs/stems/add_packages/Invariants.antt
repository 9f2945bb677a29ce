use Rattle.std.proofs.Common.{◌≡◌, map, take}
use Rattle.ips_manifest.specs.declared.package.Package.{Package}
use Rattle.ips_request.specs.Stems.{stems_of, put_all}
use Rattle.ips_request.proofs.stems.add_packages.Given as goal

abbrev pub invariant-loop-package : goal.invariant-loop-package
invariant-loop-package l = stems_of l.stems.keys ≡ put_all (stems_of l.initial.stems.keys) (map (λ (p : Package). p.stem) (take l.package-index l.packages))
