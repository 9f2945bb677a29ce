use Rattle.ips_mediate.proofs.Numerals.{first_is_number, rest_numbers, numbers_cut}
use Rattle.ips_mediate.proofs.numbers.first_number.Goals as goal

pub number-requires : goal.number-requires
number-requires c = first_is_number c.args.text.now c.first_part.result.0.now c.first_part.result.1 c.first_part.ensures c.requires

pub returns-clause-numbers : goal.returns-clause-numbers
returns-clause-numbers c = numbers_cut c.args.text.now c.first_part.result.0.now c.number.result c.first_part.result.1 c.first_part.ensures c.number.ensures

pub returns-clause-rest : goal.returns-clause-rest
returns-clause-rest c = rest_numbers c.args.text.now c.first_part.result.0.now c.first_part.result.1 c.first_part.ensures c.requires
