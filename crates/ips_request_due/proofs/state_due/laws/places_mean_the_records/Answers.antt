use Rattle.ips_request_due.proofs.state_due.Same.{creation_same, records_same, request_same}
use Rattle.ips_request_due.proofs.state_due.laws.places_mean_the_records.Goals as goal

pub returns : goal.returns
returns c = record {
  records = λ r places others are q. records_same r places others are q;
  request = λ accounts old new was is places others gone are same_others same_gone. request_same accounts old new was is places others gone are same_others same_gone;
  creation = λ new places others are same_others. creation_same new places others are same_others;
}
