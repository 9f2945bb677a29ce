use Rattle.std.proofs.Common.{◌∙◌, List, ap, slice_get, sym}
use Rattle.ips_fmri.specs.declared.fmri.Fmri.{Fmri}
use Rattle.ips_request.specs.Stems.{stems_of}
use Rattle.ips_request.proofs.Lookups.{found_at, found_none}
use Rattle.ips_request.proofs.asking.Subject.freeze.Goals as goal

pub returns-in-Some : goal.returns-in-Some
returns-in-Some c =
    let s = c.args.self.now in
    c.freeze_at.ensures ∙ ap (λ (fs : List Fmri). slice_get fs c.in-Some.number) c.deref.ensures.value ∙ found_at (λ (f : Fmri). f.stem) c.args.stem.now s.state.now.freeze.items (stems_of s.frozen.keys) s.frozen_known c.in-Some.number (sym c.in-Some.is ∙ c.number.ensures.number)

pub returns-in-None : goal.returns-in-None
returns-in-None c =
    let s = c.args.self.now in
    found_none (λ (f : Fmri). f.stem) c.args.stem.now s.state.now.freeze.items (stems_of s.frozen.keys) s.frozen_known (sym c.in-None.is ∙ c.number.ensures.number)
