use Rattle.std.proofs.Common.{arith}
use Rattle.ips_mediate.proofs.Numerals.{number_is}
use Rattle.ips_mediate.proofs.numbers.number.Goals as goal

pub returns : goal.returns
returns c = number_is c.args.part.now c.in-Some.number (omega arith) c.in-Some.ensures.found
