use Rattle.std.proofs.Common.{Bool, Ok, sym, subst, ap, ◌∙◌}
use Rattle.ips_journal.specs.Reading.{IsAt, NextAnswers, journal_of}
use Rattle.ips_journal.specs.Holding.{seen, step_in}
use Rattle.ips_journal.proofs.Standing.{read_means, read_fault}
use Rattle.ips_journal.proofs.reader.StepReader.next.Goals as goal
use Rattle.ips_journal.proofs.reader.StepReader.next.Goals.{in-Ok, in-Err}

pub returns-clause-means : goal.returns-clause-means
returns-clause-means g c = λ told front h.
    let text = journal_of (g.F.Source.outside.state c.args.folder.now).held in
    let at = subst (IsAt text front) (sym c.self.view_is) h in
    elim c.match-found.branch [
      | in-Ok w ↦ subst (NextAnswers text front (seen c.read-found.new.self (step_in c.hold.result))) (sym (w.result-is ∙ ap (λ (b : Bool). Ok b) w.is_some.ensures))
          (read_means text front c.self.inside.cursor c.read-found.new.self (step_in c.self.inside.held) (step_in c.hold.result) c.read-found.new.parts c.read-found.result w.in-Ok.sort
          w.in-Ok.is (c.read-found.ensures.means told front) c.read-found.ensures.open at.1 c.hold.ensures.lent)
      | in-Err w ↦ subst (NextAnswers text front (seen c.read-found.new.self (step_in c.hold.result))) (sym w.result-is)
          (read_fault text front c.self.inside.cursor c.read-found.new.self (step_in c.self.inside.held) c.read-found.new.parts c.read-found.result w.in-Err.fault w.in-Err.is (c.read-found.ensures.means told front) at.1).0
    ]
