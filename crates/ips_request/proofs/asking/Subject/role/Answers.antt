use Rattle.std.proofs.Common.{◌∙◌}
use Rattle.ips_request.specs.Candidates.{role_by}
use Rattle.ips_request.proofs.asking.Subject.role.Goals as goal

pub returns : goal.returns
returns c = λ file r. c.role_of.ensures ∙ (λ i. role_by c.args.self.now.kind (c.names.ensures i) (c.rejects.ensures i) (c.is_target.ensures file r i) (c.is_installed.ensures file r i))
