use Rattle.ips_text.proofs.Shown.{shown_apart, shown_back, shown_parts}
use Rattle.ips_text.proofs.quoting.shown_paths_read_back.Goals as goal

pub returns-clause-one : goal.returns-clause-one
returns-clause-one c = shown_apart

pub returns-clause-back : goal.returns-clause-back
returns-clause-back c = shown_back

pub returns-clause-split : goal.returns-clause-split
returns-clause-split c = shown_parts
