use Rattle.ips_packages.proofs.Records.{version_is_text}
use Rattle.ips_packages.proofs.record.version_in.Goals as goal

pub returns-in_default-clause-none : goal.returns-in_default-clause-none
returns-in_default-clause-none c = λ v h e. c.in_default.ensures.cases.0 (version_is_text v c.args.bytes.now h e)
