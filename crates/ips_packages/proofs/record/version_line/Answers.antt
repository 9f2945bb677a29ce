use Rattle.ips_packages.proofs.Records.{version_line_is}
use Rattle.ips_packages.proofs.record.version_line.Goals as goal

pub returns-in-None-clause-none : goal.returns-in-None-clause-none
returns-in-None-clause-none c = λ v rest h e.
    (rw c.in-None.is at c.in_ok-version.ensures.none) v h (version_line_is v c.args.bytes.now c.in-Some.behind.now c.in-Some-cut.line.now c.in-Some-cut.text.now rest h c.in-Some.ensures.some c.in-Some-cut.ensures.some e)
