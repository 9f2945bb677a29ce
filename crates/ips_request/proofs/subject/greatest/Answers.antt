use Rattle.std.proofs.Common.{◌∙◌}
use Rattle.ips_request.proofs.Lookups.{last_is}
use Rattle.ips_request.proofs.subject.greatest.Goals as goal

pub returns : goal.returns
returns c = c.last.ensures.value ∙ last_is c.args.versions.now
