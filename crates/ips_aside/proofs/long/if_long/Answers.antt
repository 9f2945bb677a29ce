use Rattle.std.proofs.Common.{sym, ◌∙◌, ap}
use Rattle.ips_after.specs.Salvage.{is_long_path}
use Rattle.ips_aside.proofs.Firsts.{not_first, only_first}
use Rattle.ips_aside.proofs.long.if_long.Goals as goal

pub returns-then-is_long_name : goal.returns-then-is_long_name
returns-then-is_long_name c = only_first c.args.name.now.path.now.bytes (is_long_path c.args.name.now.name.items) (ap is_long_path (sym c.deref.ensures.value) ∙ sym c.is_long_name.ensures ∙ c.if-is_long_name.true)

pub returns-else-is_long_name : goal.returns-else-is_long_name
returns-else-is_long_name c = not_first c.args.name.now.path.now.bytes (is_long_path c.args.name.now.name.items) (ap is_long_path (sym c.deref.ensures.value) ∙ sym c.is_long_name.ensures ∙ c.if-is_long_name.false)
