use Rattle.ips_steps.specs.View.{step_of}
use Rattle.ips_journal.proofs.Writers.{step_written}
use Rattle.ips_journal.proofs.writer.JournalWriter.step.Goals as goal

pub returns-clause-written : goal.returns-clause-written
returns-clause-written g c = λ told steps is.
    step_written c.make_room.new.self (g.F.Source.outside.state c.make_room.new.folder).held steps (c.in_ok-make_room.ensures.written told steps is) _ (step_of c.args.step.now) c.put_line.ensures.written c.saturating_add-self.ensures
