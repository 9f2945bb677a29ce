use Rattle.std.proofs.Common.{◌+◌, sym, arith}
use Rattle.ips_outside.proofs.Tallies.{none_so_great}
use Rattle.ips_outside.proofs.calls.is_listed.Goals as goal

pub returns-in-None-clause-listed : goal.returns-in-None-clause-listed
returns-in-None-clause-listed c = sym (none_so_great c.args.listed.now (c.args.made + 1) (λ i. let fits = c.type_inv.listed i in let over = c.in-None.ensures in omega (arith, fits, over)))
