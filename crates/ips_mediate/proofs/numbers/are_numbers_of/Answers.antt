use Rattle.std.proofs.Common.{refl}
use Rattle.ips_mediate.proofs.Numerals.{numerals_parts, numbers_done}
use Rattle.ips_mediate.proofs.numbers.are_numbers_of.Goals as goal

pub loop-number-init : goal.loop-number-init
loop-number-init c = record { so_far = refl; numbers = numerals_parts c.args.text.now c.requires }

pub returns : goal.returns
returns c = numbers_done c.args.text.now c.args.numbers.now c.loop-number.number-index c.loop-number.left c.is_none.result c.loop-number.invariant.so_far c.loop-number-test.false c.is_none.ensures
