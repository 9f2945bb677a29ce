use Rattle.std.proofs.Common.{None, ◌∙◌, ap, sym}
use Rattle.std.specs.List.{last_or}
use Rattle.std.specs.Option.{option_copied}
use Rattle.std.specs.Ordering.{is_eq}
use Rattle.ips_request.specs.Candidates.{is_version}
use Rattle.ips_request.proofs.asking.Subject.is_greatest.Goals as goal

pub returns-in-Some : goal.returns-in-Some
returns-in-Some c = λ file r.
    let known = sym (ap option_copied c.in-Some.is) ∙ c.greatest.ensures ∙ ap (last_or None) c.listed.ensures in
    c.is_eq.ensures ∙ ap is_eq c.cmp.ensures ∙ ap (λ o. is_version o c.args.version.now) known
