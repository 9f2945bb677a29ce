use Rattle.std.proofs.Common.{◌≡◌, ◌≤◌, IsTrue, List, [], length, take}
use Rattle.ips_outside.specs.Outside.{Reads}
use Rattle.ips_steps.specs.Steps.{Step}
use Rattle.ips_steps.specs.Journal.{IsJournal}
use Rattle.ips_journal.specs.Text.{journal_text}
use Rattle.ips_journal.specs.Reading.{IsAt, journal_of}
use Rattle.ips_commit.proofs.placing.pass.Given as goal

abbrev pub invariant-loop-passed : goal.invariant-loop-passed
invariant-loop-passed g l = record {
  going : IsTrue l.reader.is_open;
  reads : Reads g.F.Source.outside l.fn.folder l.folder ⊥;
  at : IsTrue (g.F.Source.outside.tells l.fn.folder) → (steps : List Step) → IsJournal steps → journal_of (g.F.Source.outside.state l.fn.folder).held ≡ journal_text steps
      → l.count ≤ length steps → IsAt (journal_of (g.F.Source.outside.state l.fn.folder).held) [] l.fn.reader → IsAt (journal_of (g.F.Source.outside.state l.fn.folder).held) (take l._passed steps) l.reader;
}
