use Rattle.std.proofs.Common.{◌∙◌, ap, subst, sym}
use Rattle.std.specs.Option.{option_copied}
use Rattle.ips_request.proofs.Lookups.{admits_where, freeze_admitted}
use Rattle.ips_request.proofs.StemLists.{AreDistinct}
use Rattle.ips_request.proofs.asking.Subject.freeze_admits.Goals as goal

pub returns-in-Some : goal.returns-in-Some
returns-in-Some c =
    let s = c.args.self.now in
    let found = sym (ap option_copied c.in-Some.is) ∙ c.freeze.ensures in
    c.is_admitted.ensures ∙ ap (λ o. admits_where o c.args.version.now) found ∙ freeze_admitted c.args.stem.now c.args.version.now s.state.now.freeze.items (subst AreDistinct s.frozen_known s.one_freeze)

pub returns-in-None : goal.returns-in-None
returns-in-None c =
    let s = c.args.self.now in
    let found = sym (ap option_copied c.in-None.is) ∙ c.freeze.ensures in
    ap (λ o. admits_where o c.args.version.now) found ∙ freeze_admitted c.args.stem.now c.args.version.now s.state.now.freeze.items (subst AreDistinct s.frozen_known s.one_freeze)
