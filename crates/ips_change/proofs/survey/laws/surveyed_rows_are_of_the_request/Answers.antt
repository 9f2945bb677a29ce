use Rattle.ips_change.proofs.survey.Surveyed.{rows_of}
use Rattle.ips_change.proofs.survey.laws.surveyed_rows_are_of_the_request.Goals as goal

pub returns : goal.returns
returns c = rows_of
