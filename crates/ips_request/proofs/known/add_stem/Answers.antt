use Rattle.std.proofs.Common.{◌∙◌, ap}
use Rattle.ips_request.specs.Stems.{has}
use Rattle.ips_request.proofs.Inserted.{has_inserted}
use Rattle.ips_request.proofs.known.add_stem.Goals as goal

pub returns : goal.returns
returns c = λ other. ap (has other) c.in_ok-insert.ensures.keys ∙ has_inserted other c.args.stem c.args.known.now.keys
