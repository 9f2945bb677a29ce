use Rattle.std.proofs.Common.{◌≡◌, ◌++◌, take}
use Rattle.ips_request.proofs.versions.add_all.Given as goal

abbrev pub invariant-loop-version : goal.invariant-loop-version
invariant-loop-version l = l.all.items ≡ l.initial.all.items ++ take l.version-index l.listed
