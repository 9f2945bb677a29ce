use Rattle.std.proofs.Common.{◌∙◌}
use Rattle.ips_conflict.proofs.Kept.{found_any}
use Rattle.ips_delivered.proofs.withdrawn.sets.has.Goals as goal

pub returns : goal.returns
returns c = c.contains.ensures ∙ found_any c.args.bytes.now c.args.set.now.keys
