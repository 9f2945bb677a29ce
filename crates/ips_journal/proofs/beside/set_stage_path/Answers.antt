use Rattle.std.proofs.Common.{sym, subst, arith}
use Rattle.ips_text.specs.Path.{IsPath}
use Rattle.ips_journal.proofs.Paths.{stage_is_path}
use Rattle.ips_journal.proofs.beside.set_stage_path.Goals as goal

pub set_to-requires-clause-path : goal.set_to-requires-clause-path
set_to-requires-clause-path c = subst IsPath (sym c.stage_path-count.ensures.written) (stage_is_path c.args.number (omega arith))
