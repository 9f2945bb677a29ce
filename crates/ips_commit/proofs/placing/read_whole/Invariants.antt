use Rattle.std.proofs.Common.{◌-◌, IsTrue, []}
use Rattle.ips_outside.specs.Outside.{Reads}
use Rattle.ips_journal.specs.Reading.{IsAt, journal_of}
use Rattle.ips_commit.proofs.Places.{HasRead}
use Rattle.ips_commit.proofs.placing.read_whole.Given as goal

abbrev pub invariant-loop-count : goal.invariant-loop-count
invariant-loop-count g l = record {
  going : IsTrue l.reader.is_open;
  reads : Reads g.F.Source.outside l.fn.folder l.folder ⊥;
  read : IsTrue (g.F.Source.outside.tells l.fn.folder) → IsAt (journal_of (g.F.Source.outside.state l.fn.folder).held) [] l.fn.reader → HasRead (journal_of (g.F.Source.outside.state l.fn.folder).held) l.reader l.count;
}

abbrev pub decreases-loop-count : goal.decreases-loop-count
decreases-loop-count g l = 18446744073709551616 - l.count
