use Rattle.ips_rehearse.proofs.Passing.{pass_call, pass_then}
use Rattle.ips_commit.proofs.gate.clear_left.Goals as goal

pub returns-clause-opened : goal.returns-clause-opened
returns-clause-opened g c = λ told.
    let o = g.F.Source.outside in
    let was = c.in_ok-sweep_left.ensures.opened told in
    record {
      at = was.at;
      since = was.since;
      until = pass_then o was.at c.sweep_left.new.folder c.sync.new.self was.until (pass_call o c.sweep_left.new.folder c.sync.new.self _ c.sync.ensures.call);
      held = was.held;
    }
