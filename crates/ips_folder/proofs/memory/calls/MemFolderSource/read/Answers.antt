use Rattle.std.proofs.Common.{rules, is_err}
use Rattle.ips_folder.proofs.Answered.{reads_as, same_log}
use Rattle.ips_folder.proofs.memory.calls.MemFolderSource.read.Goals as goal

pub returns-in_err-answer-clause-reads : goal.returns-in_err-answer-clause-reads
returns-in_err-answer-clause-reads c = reads_as c.args.self.now c.answer.new.self (same_log c.answer.ensures.log) _ (is_err c.from_residual.result) (search rules) c.answer.ensures.counted c.answer.ensures.changes
