use Rattle.std.proofs.Common.{refl}
use Rattle.ips_state.specs.State.{recorded}
use Rattle.ips_next.proofs.Recorded.{line_added}
use Rattle.ips_operations.proofs.fixing.deciding.noted.Goals as goal

pub returns-clause-noted : goal.returns-clause-noted
returns-clause-noted c = let line = c.in_ok-add_line.ensures.line in record { line = line.0; is_line = line.1; history = line.2; rest = refl }

pub returns-clause-lawful : goal.returns-clause-lawful
returns-clause-lawful c =
    line_added (recorded c.args.state.now) c.add_line.new.history.items c.requires.lawful (c.in_ok-add_line.ensures.lawful c.requires.kept c.requires.lawful.history)
