use Rattle.std.proofs.Common.{refl}
use Rattle.ips_mediate.specs.Mediation.{numbers_of}
use Rattle.ips_mediate.proofs.Numerals.{numerals_parts, first_ends, second_ends}
use Rattle.ips_mediate.proofs.numbers.numerals_order.Goals as goal

pub loop-more-init : goal.loop-more-init
loop-more-init c = record { so_far = refl; left = numerals_parts c.args.a.now c.requires.a; right = numerals_parts c.args.b.now c.requires.b }

pub returns-in-Some-None : goal.returns-in-Some-None
returns-in-Some-None c =
    second_ends (numbers_of c.args.a.now) (numbers_of c.args.b.now) (numbers_of c.loop-more.left.now) (numbers_of c.loop-more.right.now) c.first_number-first.result.0 c.first_number-second.result.0 c.in-Some-None.field-0-0.now c.loop-more.invariant.so_far
    (rw c.in-Some-None.is-0 at c.first_number-first.ensures.numbers) (rw c.in-Some-None.is-1 at c.first_number-second.ensures.numbers) c.if-first-second.false

pub returns-in-None-Some : goal.returns-in-None-Some
returns-in-None-Some c =
    first_ends (numbers_of c.args.a.now) (numbers_of c.args.b.now) (numbers_of c.loop-more.left.now) (numbers_of c.loop-more.right.now) c.first_number-first.result.0 c.first_number-second.result.0 c.in-None-Some.field-0-1.now c.loop-more.invariant.so_far
    (rw c.in-None-Some.is-0 at c.first_number-first.ensures.numbers) (rw c.in-None-Some.is-1 at c.first_number-second.ensures.numbers) c.if-first-second.false
