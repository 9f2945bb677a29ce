use Rattle.ips_due.proofs.Standing.{record_stays}
use Rattle.ips_due.proofs.laws.standing_records_stay.Goals as goal

pub returns : goal.returns
returns c = λ due t r emptied q content good formed gone is of left bare none at stands keeps. record_stays due t r emptied good formed gone is of left bare q content none at stands keeps
