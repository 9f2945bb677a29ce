use Rattle.std.proofs.Common.{◌<◌, ◌^◌, sym}
use Rattle.ips_books.proofs.Decimals.{number_small, number_large}
use Rattle.ips_books.proofs.line.number_in.Goals as goal

pub returns-in-Some : goal.returns-in-Some
returns-in-Some c = sym (number_small c.args.bytes.now c.in-Some.number c.if-number.true c.in-Some.ensures.found)

pub returns-in_default : goal.returns-in_default
returns-in_default c =
    let inv = rw c.in-Some.is at c.decimal.type_inv in
    let bound : c.in-Some.number < 2 ^ 64 = assumption inv in
    sym (number_large c.args.bytes.now c.in-Some.number bound c.if-number.false c.in-Some.ensures.found)
