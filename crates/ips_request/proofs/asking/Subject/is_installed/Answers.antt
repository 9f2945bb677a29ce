use Rattle.std.proofs.Common.{◌∙◌, ap, is_some}
use Rattle.ips_state.specs.State.{installed}
use Rattle.ips_request.proofs.Lookups.{there_mapped}
use Rattle.ips_request.proofs.asking.Subject.is_installed.Goals as goal

pub returns : goal.returns
returns c = λ file r. c.is_some.ensures ∙ there_mapped (λ p. installed p.now) c.installed.result ∙ ap is_some c.installed.ensures
