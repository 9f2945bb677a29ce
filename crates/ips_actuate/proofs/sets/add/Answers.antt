use Rattle.ips_actuate.proofs.Gathered.{put}
use Rattle.ips_actuate.proofs.sets.add.Goals as goal

pub returns : goal.returns
returns c = put c.args.set.now c.insert.new.self c.args.text c.in_ok-insert.ensures.updates
