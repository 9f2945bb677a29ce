use Rattle.std.proofs.Common.{◌∙◌, Some, ap, option_map, sym}
use Rattle.ips_fmri.specs.Version.{Parts}
use Rattle.ips_problem.proofs.gathering.version_before.Goals as goal

pub returns-in_ok-copy-in-Some : goal.returns-in_ok-copy-in-Some
returns-in_ok-copy-in-Some c = λ file r.
    ap (λ (v : Parts). Some v) c.in_ok-copy-in-Some.ensures ∙ ap (option_map (λ v. v.now)) (sym c.in-Some.is) ∙ c.installed_version.ensures file r
