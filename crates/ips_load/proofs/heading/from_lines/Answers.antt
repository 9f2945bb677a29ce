use Rattle.ips_load.proofs.HeadBad.{bad_format, bad_publisher_behind}
use Rattle.ips_load.proofs.heading.from_lines.Goals as goal

pub returns-in_default-clause-bad : goal.returns-in_default-clause-bad
returns-in_default-clause-bad c = bad_format c.args.whole c.args.lines.now c.in_default.ensures.none

pub returns-in_default-first_publisher-clause-bad : goal.returns-in_default-first_publisher-clause-bad
returns-in_default-first_publisher-clause-bad c = bad_publisher_behind c.args.whole c.args.lines.now c.in-Some.format c.in-Some.behind.now c.in-Some.ensures.some c.requires.fit c.in_default-first_publisher.ensures.none
