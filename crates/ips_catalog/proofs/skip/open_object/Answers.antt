use Rattle.std.proofs.Common.{arith}
use Rattle.ips_catalog.proofs.FirstTokens.{nothing_refused}
use Rattle.ips_catalog.proofs.skip.open_object.Goals as goal

pub returns-in_err-token-clause-refused : goal.returns-in_err-token-clause-refused
returns-in_err-token-clause-refused c never = nothing_refused c.args.depth c.args.reader.now (grind arith)
