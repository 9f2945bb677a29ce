use Rattle.std.proofs.Common.{◌∙◌}
use Rattle.ips_conflict.proofs.Kept.{found_any}
use Rattle.ips_aside.proofs.free.is_marked.Goals as goal

pub returns : goal.returns
returns c = c.contains.ensures ∙ found_any c.args.name.now c.args.taken.now.keys
