use Rattle.std.proofs.Common.{IsTrue}
use Rattle.ips_folder_tests.proofs.journal.read_all.Given as goal

abbrev pub invariant-loop-count : goal.invariant-loop-count
invariant-loop-count l = IsTrue l.reader.is_open
