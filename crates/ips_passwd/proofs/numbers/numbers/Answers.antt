use Rattle.std.proofs.Common.{arith}
use Rattle.ips_books.specs.Writing.{has_number}
use Rattle.ips_books.specs.Seen.{as_line}
use Rattle.ips_passwd.specs.Entries.{leads_by}
use Rattle.ips_passwd.proofs.Places.{led_none, led_more}
use Rattle.ips_passwd.proofs.numbers.numbers.Goals as goal

pub loop-i-init : goal.loop-i-init
loop-i-init c = led_none (λ id text. has_number id (as_line text)) (leads_by c.new-numbers.result) c.args.lines.now

pub loop-i-preserved : goal.loop-i-preserved
loop-i-preserved c =
    led_more (λ id text. has_number id (as_line text)) (leads_by c.loop-i.numbers) (leads_by c.list.new.numbers) c.loop-i.i c.args.lines.now c.index-lines-i.result c.text.result.now c.loop-i-test.true c.index-lines-i.is c.text.ensures c.list.ensures.stays c.in_ok-list.ensures.listed
    c.loop-i.invariant

pub returns : goal.returns
returns c = λ i d lt. c.loop-i.invariant i d (omega (arith, lt, c.loop-i-test.false))
