use Rattle.std.proofs.Common.{◌∙◌}
use Rattle.ips_rehearse.proofs.Keys.{found_path}
use Rattle.ips_rehearse.proofs.sets.has.Goals as goal

pub returns : goal.returns
returns c = c.contains.ensures ∙ found_path c.args.path.now c.args.paths.now.keys
