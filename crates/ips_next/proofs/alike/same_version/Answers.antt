use Rattle.std.proofs.Common.{ap, Some}
use Rattle.std.proofs.lemmas.Option.{same_Some}
use Rattle.ips_fmri.specs.Version.{Parts}
use Rattle.ips_next.proofs.Comparing.{version_same}
use Rattle.ips_next.proofs.alike.same_version.Goals as goal

pub returns-in-Some-Some : goal.returns-in-Some-Some
returns-in-Some-Some c =
    let v = c.in-Some-Some.one in
    let w = c.in-Some-Some.other in
    let same = version_same v w c.eq.result c.eq.ensures in
    rw (c.in-Some-Some.is-0, c.in-Some-Some.is-1) (λ t. ap (λ (x : Parts). Some x) (same.0 t), λ e. same.1 (same_Some v w e))
