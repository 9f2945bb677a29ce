use Rattle.std.proofs.Common.{◌<◌, ℕ, arith}
use Rattle.std.proofs.lemmas.List.Elements.{All-from_get_or, recursion_from_All}
use Rattle.ips_movable.proofs.fixing.can_be_said.Goals as goal

abbrev IsByte : ℕ → Type 0
IsByte b = b < 256

pub returns-then-target-lt4096-clause-bytes : goal.returns-then-target-lt4096-clause-bytes
returns-then-target-lt4096-clause-bytes c = recursion_from_All IsByte c.args.target.now (All-from_get_or IsByte c.args.target.now 0 (λ i within. omega (arith, c.type_inv.target i)))

pub returns-else-target-lt4096-clause-bytes : goal.returns-else-target-lt4096-clause-bytes
returns-else-target-lt4096-clause-bytes c = recursion_from_All IsByte c.args.target.now (All-from_get_or IsByte c.args.target.now 0 (λ i within. omega (arith, c.type_inv.target i)))
