use Rattle.std.proofs.Common.{ap, sym, subst, true, Ok}
use Rattle.ips_fmri.specs.Fmri.{Writes}
use Rattle.ips_fmri.proofs.Versions.{fault_first, read_one, read_none}
use Rattle.ips_fmri.proofs.Readings.{judges_pattern}
use Rattle.ips_fmri.proofs.pattern.Pattern.parse.Goals as goal

pub fault-requires : goal.fault-requires
fault-requires c = (fault_first judges_pattern _ c.in-Err-Bad.stop (rw c.in-Err-Bad.field-0-is at c.in-Err-Bad.ensures)).0

pub returns-in-Ok-clause-found : goal.returns-in-Ok-clause-found
returns-in-Ok-clause-found c = rw (← c.as_bytes-bytes.ensures.value) (judges_pattern.found _ _ c.in-Ok.ensures)

pub returns-in-Ok-clause-only : goal.returns-in-Ok-clause-only
returns-in-Ok-clause-only c = λ v h t. ap Ok (read_one judges_pattern _ _ v c.in-Ok.ensures (h, subst (Writes true v) (sym c.as_bytes-bytes.ensures.value) t))

pub returns-in-Err-Bad-clause-only : goal.returns-in-Err-Bad-clause-only
returns-in-Err-Bad-clause-only c = λ v h t. absurd (read_none judges_pattern _ c.in-Err-Bad.stop v (rw c.in-Err-Bad.field-0-is at c.in-Err-Bad.ensures) (h, subst (Writes true v) (sym c.as_bytes-bytes.ensures.value) t))

pub returns-in-Err-Bad-clause-first : goal.returns-in-Err-Bad-clause-first
returns-in-Err-Bad-clause-first c = rw (← c.as_bytes-bytes.ensures.value, c.fault.ensures) (fault_first judges_pattern _ c.in-Err-Bad.stop (rw c.in-Err-Bad.field-0-is at c.in-Err-Bad.ensures)).1
