use Rattle.ips_metafiles.proofs.DriverLines.{line_put}
use Rattle.ips_metafiles.proofs.driver.add_line.Goals as goal

pub returns : goal.returns
returns c = λ other. line_put c.args.lines.now c.insert.new.self c.args.line other c.in_ok-insert.ensures.updates
