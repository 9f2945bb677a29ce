use Rattle.std.proofs.Common.{◌<◌, ℕ, arith}
use Rattle.std.proofs.lemmas.List.Elements.{All-from_get_or, recursion_from_All}
use Rattle.ips_emit.proofs.Listed.{IsByte}
use Rattle.ips_emit.proofs.listing.are_bytes.Goals as goal

pub returns : goal.returns
returns c = recursion_from_All IsByte c.args.bytes.now (All-from_get_or IsByte c.args.bytes.now 0 (λ i within. omega (arith, c.type_inv.bytes i)))
