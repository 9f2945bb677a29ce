use Rattle.std.proofs.Common.{IsTrue}
use Rattle.ips_folder_tests.proofs.journal.lent.Given as goal

abbrev pub invariant-loop-line : goal.invariant-loop-line
invariant-loop-line g l = IsTrue l.reader.is_open
