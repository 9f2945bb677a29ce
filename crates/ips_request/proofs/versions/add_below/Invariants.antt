use Rattle.std.proofs.Common.{◌≡◌, ◌++◌, filter, take, is_lt}
use Rattle.ips_fmri.specs.Order.{version_cmp}
use Rattle.ips_request.proofs.versions.add_below.Given as goal

abbrev pub invariant-loop-version : goal.invariant-loop-version
invariant-loop-version l = l.all.items ≡ l.initial.all.items ++ filter (λ w. is_lt (version_cmp w l.installed)) (take l.version-index l.listed)
