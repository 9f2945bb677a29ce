use Rattle.ips_steps.proofs.Numbered.{contents_apart, marks_apart, one_mark}
use Rattle.ips_steps.proofs.laws.numbered_apart.Goals as goal

pub returns : goal.returns
returns c = record { contents = contents_apart; marks = marks_apart; one = one_mark }
