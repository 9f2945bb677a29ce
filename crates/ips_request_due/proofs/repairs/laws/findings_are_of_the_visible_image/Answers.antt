use Rattle.ips_request_due.proofs.repairs.Seen.{findings_seen, request_seen}
use Rattle.ips_request_due.proofs.repairs.laws.findings_are_of_the_visible_image.Goals as goal

pub returns : goal.returns
returns c = record {
  findings = λ f h good names. findings_seen f h good names;
  request = λ f h good names. request_seen f h good names;
}
