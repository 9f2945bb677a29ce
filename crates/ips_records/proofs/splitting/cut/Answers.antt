use Rattle.std.proofs.Common.{sym, ◌∙◌}
use Rattle.std.proofs.lemmas.List.{take_rest}
use Rattle.ips_text.proofs.Cuts.{found_cuts, none_lacks}
use Rattle.ips_records.proofs.splitting.cut.Goals as goal

pub returns-in-Some-clause-some : goal.returns-in-Some-clause-some
returns-in-Some-clause-some c = rw take_rest (found_cuts c.args.byte c.args.bytes.now c.in-Some.end (sym c.in-Some.is ∙ c.first_place.ensures)).1

pub returns-in-None-clause-none : goal.returns-in-None-clause-none
returns-in-None-clause-none c = none_lacks c.args.byte c.args.bytes.now (sym c.in-None.is ∙ c.first_place.ensures)
