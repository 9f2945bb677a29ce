use Rattle.std.proofs.Common.{◌∙◌, ap, sym, inl, inr}
use Rattle.ips_request.specs.Manifests.{is_needed}
use Rattle.ips_request.specs.Subject.{case_of}
use Rattle.ips_request.proofs.asking.Subject.needs.Goals as goal

pub returns-in-Install : goal.returns-in-Install
returns-in-Install c = λ file r.
    let s = c.args.self.now in
    c.looks_at.ensures file r ∙ sym (elim c.in-Install.is [
      | inl install ↦ ap (λ kind. is_needed kind (case_of s file r) c.args.stem.now c.args.version.now) install
      | inr update ↦ ap (λ kind. is_needed kind (case_of s file r) c.args.stem.now c.args.version.now) update
    ])
