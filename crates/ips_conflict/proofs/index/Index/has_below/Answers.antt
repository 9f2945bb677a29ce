use Rattle.std.proofs.Common.{◌∙◌, ap}
use Rattle.ips_conflict.specs.Index.{has_path}
use Rattle.ips_conflict.proofs.Kept.{found_any}
use Rattle.ips_conflict.proofs.index.Index.has_below.Goals as goal

pub returns : goal.returns
returns c = c.contains.ensures ∙ found_any c.as_bytes.result.now c.args.self.now.above.keys ∙ ap (has_path c.args.self.now.above) c.as_bytes.ensures.value
