use Rattle.std.proofs.Common.{◌∙◌}
use Rattle.ips_conflict.proofs.Kept.{found_at}
use Rattle.ips_passwd.proofs.names.led.Goals as goal

pub returns : goal.returns
returns c = c.copied.ensures ∙ c.get.ensures.value ∙ found_at c.args.name.now c.args.places.now.entries
