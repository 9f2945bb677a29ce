use Rattle.std.proofs.Common.{List, ◌++◌, map, ◌∙◌, ap}
use Rattle.ips_meaning.specs.declared.finding.Finding as told_finding
use Rattle.ips_after.specs.Findings.{findings}
use Rattle.ips_change.specs.wanted.Wanted.{want_of}
use Rattle.ips_change.specs.wanted.Named.{is_payload_of}
use Rattle.ips_verify.specs.Verified.{finding_told}
use Rattle.ips_verify.proofs.verifying.findings.Goals as goal

pub returns-in-Ok-clause-found : goal.returns-in-Ok-clause-found
returns-in-Ok-clause-found g c = λ told.
    c.in-Ok.ensures.found told ∙ ap (λ (l : List told_finding.Finding). map finding_told l ++ findings is_payload_of (want_of c.args.want.now) (g.F.Source.outside.state c.args.folder.now).held) c.new-found.ensures.items
