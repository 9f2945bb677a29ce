use Rattle.std.proofs.Common.{sym, ap, ◌∙◌}
use Rattle.ips_text.specs.Ancestry.{parent}
use Rattle.ips_journal.proofs.Paths.{parent_path}
use Rattle.ips_journal.proofs.beside.set_parent.Goals as goal

pub set_to-requires-clause-path : goal.set_to-requires-clause-path
set_to-requires-clause-path c = parent_path c.args.path.now.bytes c.in-Some.dir.now c.bytes.ensures.path (ap parent (sym c.bytes.ensures.value) ∙ c.in-Some.ensures.some)
