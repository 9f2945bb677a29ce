use Rattle.std.proofs.Common.{◌∙◌, ap}
use Rattle.ips_request.specs.Stems.{has}
use Rattle.ips_request.proofs.Lookups.{has_once}
use Rattle.ips_request.proofs.subject.names.Goals as goal

pub returns : goal.returns
returns c = c.has_stem.ensures ∙ ap (has c.args.stem.now) c.args.naming.now.known ∙ has_once c.args.stem.now c.args.naming.now.stems.items
