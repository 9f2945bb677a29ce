use Rattle.std.proofs.Common.{◌↔◌, IsTrue, false, ◌≡◌, rules}
use Rattle.std.proofs.lemmas.Result.{IfOk-weaker}
use Rattle.ips_records.proofs.RequestForms.{request_cut, request_join, request_none}
use Rattle.ips_records.proofs.requests.is_request.Goals as goal

pub returns-in_default : goal.returns-in_default
returns-in_default c = (λ yes. absurd cc, λ r. absurd (request_none c.args.bytes.now c.in_default.ensures.none r))

pub returns-else-branch : goal.returns-else-branch
returns-else-branch c = (
  λ yes. absurd cc,
  λ r.
      let parts = request_cut c.args.bytes.now c.in-Some.moment.now c.in-Some.words.now c.in-Some.ensures.some r in
      let yes : IsTrue c.in_ok-is_moment.field-0 = c.in_ok-is_moment.ensures.1 parts.0 in
      search rules,
)
