use Rattle.std.proofs.Common.{None, subst}
use Rattle.std.specs.Str.{IsUtf8}
use Rattle.ips_records.proofs.Fields.{version_field_sole, version_field_text}
use Rattle.ips_records.proofs.optional.if_version.Goals as goal

pub returns-then-eq-clause-sole : goal.returns-then-eq-clause-sole
returns-then-eq-clause-sole c = version_field_sole None tt

pub returns-in_default-clause-none : goal.returns-in_default-clause-none
returns-in_default-clause-none c = λ v h e. c.in_default.ensures.cases.0 (subst IsUtf8 e (version_field_text v h))
