use Rattle.std.proofs.Common.{◌∙◌}
use Rattle.ips_conflict.proofs.Found.{same_path_is}
use Rattle.ips_change.proofs.content.content.is_same.Goals as goal

pub returns : goal.returns
returns c = c.eq.ensures ∙ same_path_is c.args.a.now c.args.b.now
