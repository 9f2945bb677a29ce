use Rattle.std.proofs.Common.{arith}
use Rattle.ips_books.specs.Accounts.{is_of}
use Rattle.ips_books.specs.Seen.{as_line}
use Rattle.ips_passwd.specs.Entries.{leads_up_to}
use Rattle.ips_passwd.proofs.Places.{led_none, led_more}
use Rattle.ips_passwd.proofs.names.places.Goals as goal

pub loop-i-init : goal.loop-i-init
loop-i-init c = led_none (λ name text. is_of name (as_line text)) (leads_up_to c.new-places.result) c.args.lines.now

pub loop-i-preserved : goal.loop-i-preserved
loop-i-preserved c =
    led_more (λ name text. is_of name (as_line text)) (leads_up_to c.loop-i.places) (leads_up_to c.note.new.places) c.loop-i.i c.args.lines.now c.index-lines-i.result c.text.result.now c.loop-i-test.true c.index-lines-i.is c.text.ensures c.note.ensures.stays c.in_ok-note.ensures.noted
    c.loop-i.invariant

pub returns : goal.returns
returns c = λ i d lt. c.loop-i.invariant i d (omega (arith, lt, c.loop-i-test.false))
