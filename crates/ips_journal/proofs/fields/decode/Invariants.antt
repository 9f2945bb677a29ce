use Rattle.std.proofs.Common.{◌≡◌, ◌≤◌, ◌++◌, length, take}
use Rattle.ips_text.specs.Quote.{AreBytes}
use Rattle.ips_journal.specs.Escape.{escaped}
use Rattle.ips_journal.proofs.fields.decode.Given as goal

abbrev pub invariant-loop-rest : goal.invariant-loop-rest
invariant-loop-rest l = record {
  within : l.count ≤ length l.buffer;
  told : l.fn.bytes ≡ escaped l.slash (take l.count l.buffer) ++ l.rest;
  bytes : AreBytes (take l.count l.buffer);
}

abbrev pub decreases-loop-rest : goal.decreases-loop-rest
decreases-loop-rest l = length l.rest
