use Rattle.std.proofs.Common.{◌∙◌, ap, option_map, sym}
use Rattle.ips_state.specs.State.{installed}
use Rattle.ips_request.specs.Case.{at_version}
use Rattle.ips_request.proofs.asking.Subject.own.Goals as goal

pub returns-in-Some : goal.returns-in-Some
returns-in-Some c = λ file r.
    let found = sym (ap (option_map (λ p. installed p.now)) c.in-Some.is) ∙ c.installed.ensures in
    c.at_version.ensures ∙ ap (λ o. at_version o c.args.version.now) found

pub returns-in-None : goal.returns-in-None
returns-in-None c = λ file r.
    let found = sym (ap (option_map (λ p. installed p.now)) c.in-None.is) ∙ c.installed.ensures in
    ap (λ o. at_version o c.args.version.now) found
