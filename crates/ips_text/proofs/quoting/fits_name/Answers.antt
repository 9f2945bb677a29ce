use Rattle.std.proofs.Common.{sym, refl, arith}
use Rattle.ips_text.specs.Quote.{quoted}
use Rattle.ips_text.proofs.Names.{quoted_more, no_room}
use Rattle.ips_text.proofs.quoting.fits_name.Goals as goal

pub loop-byte-init : goal.loop-byte-init
unfolding quoted
loop-byte-init c = refl

pub returns-then-size-room : goal.returns-then-size-room
returns-then-size-room c = sym (no_room c.args.bytes.now c.loop-byte.byte-index c.loop-byte.room c.quoted_size-size.result _ c.loop-byte-test.true c.loop-byte.invariant c.quoted_size-size.ensures refl c.if-size-room.true)

pub loop-byte-preserved : goal.loop-byte-preserved
loop-byte-preserved c = omega (arith, quoted_more c.args.bytes.now c.loop-byte.byte-index c.loop-byte-test.true, c.loop-byte.invariant, c.quoted_size-size.ensures)
