use Rattle.std.proofs.Common.{ap}
use Rattle.ips_aside.specs.Long.{is_too_long_name}
use Rattle.ips_aside.proofs.Firsts.{only_first}
use Rattle.ips_aside.proofs.long.if_too_long.Goals as goal

pub returns-in-TooLong : goal.returns-in-TooLong
returns-in-TooLong c = only_first c.args.side.now.path.now.bytes (is_too_long_name c.args.side.now.name) (ap is_too_long_name c.in-TooLong.is)
