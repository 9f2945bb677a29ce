use Rattle.std.proofs.Common.{take}
use Rattle.ips_action.proofs.Spelled.{name_is_text}
use Rattle.ips_action.proofs.printing.push_name.Goals as goal

pub unreachable-requires : goal.unreachable-requires
unreachable-requires c = name_is_text c.in-Some.name (take c.print-count.result c.print-count.new.out) (rw c.in-Some.is at c.requires) c.print-count.ensures.spelled c.in-Err.ensures.cases.0
