use Rattle.std.proofs.Common.{arith}
use Rattle.ips_journal.proofs.Escapes.{written_more}
use Rattle.ips_journal.proofs.writing.put_escaped.Goals as goal

pub loop-byte-preserved : goal.loop-byte-preserved
loop-byte-preserved c = record {
  written = written_more c.args.slash c.args.bytes.now c.loop-byte.byte-index c.args.text.now.items c.loop-byte.text.items c.put_byte.new.text.items c.loop-byte-test.true c.loop-byte.invariant.written c.put_byte.ensures.written;
  long = omega (arith, c.loop-byte.invariant.long, c.put_byte.ensures.long);
  room = omega (arith, c.loop-byte.invariant.room, c.put_byte.ensures.room);
}
