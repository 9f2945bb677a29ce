use Rattle.std.proofs.Common.{◌∙◌, ap, option_map, sym}
use Rattle.ips_depend.specs.Matching.{reaches}
use Rattle.ips_depend.proofs.Matching.{at_least_same}
use Rattle.ips_state.specs.State.{Installed, installed}
use Rattle.ips_request.proofs.asking.Subject.reaches.Goals as goal

pub returns-in-Some : goal.returns-in-Some
returns-in-Some c =
    let found = sym (ap (option_map (λ p. installed p.now)) c.in-Some.is) ∙ c.installed.ensures in
    at_least_same _ _ _ c.at_least.ensures ∙ ap (λ o. reaches (option_map (λ (p : Installed). p.version) o) c.args.version.now) found
