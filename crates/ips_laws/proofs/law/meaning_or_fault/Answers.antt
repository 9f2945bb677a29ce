use Rattle.ips_laws.proofs.Apart.{apart}
use Rattle.ips_laws.proofs.law.meaning_or_fault.Goals as goal

pub returns : goal.returns
returns c = λ settings mediators packages entries why mean fail. apart settings mediators packages entries why mean fail
