use Rattle.std.proofs.Common.{IsTrue, false}
use Rattle.ips_records.specs.Form.{HasStamp}
use Rattle.ips_records.proofs.RequestForms.{stamp_utf8}
use Rattle.ips_records.proofs.requests.has_moment.Goals as goal

pub returns-in_default : goal.returns-in_default
returns-in_default c = (λ yes. absurd cc, λ h. absurd (c.in_default.ensures.cases.0 (stamp_utf8 c.args.spelled.now h)))
