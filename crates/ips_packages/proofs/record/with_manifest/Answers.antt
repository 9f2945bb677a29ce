use Rattle.ips_packages.proofs.LineNumbers.{fault_behind}
use Rattle.ips_packages.proofs.record.with_manifest.Goals as goal

pub returns-in-Err-Bad-clause-bad : goal.returns-in-Err-Bad-clause-bad
returns-in-Err-Bad-clause-bad c = rw c.in-Err-Bad.field-0-is (fault_behind c.args.text.now c.in-Err-Bad.fault (rw c.in-Err-Bad.field-0-is at c.in-Err-Bad.ensures.fault))
