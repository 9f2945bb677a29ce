use Rattle.std.proofs.Common.{◌≡◌, ◌≤◌, ◌+◌, ◌*◌, ◌++◌, take, vec_len, vec_capacity}
use Rattle.ips_journal.specs.Escape.{escaped}
use Rattle.ips_journal.proofs.writing.put_escaped.Given as goal

abbrev pub invariant-loop-byte : goal.invariant-loop-byte
invariant-loop-byte l = record {
  written : l.text.items ≡ l.initial.text.items ++ escaped l.slash (take l.byte-index l.bytes);
  long : vec_len l.text ≤ vec_len l.initial.text + 3 * l.byte-index;
  room : vec_capacity l.initial.text ≤ vec_capacity l.text;
}
