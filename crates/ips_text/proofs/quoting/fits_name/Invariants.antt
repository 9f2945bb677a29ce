use Rattle.std.proofs.Common.{◌≡◌, ◌+◌, length, take}
use Rattle.ips_text.specs.Quote.{quoted}
use Rattle.ips_text.proofs.quoting.fits_name.Given as goal

abbrev pub invariant-loop-byte : goal.invariant-loop-byte
invariant-loop-byte l = length (quoted (take l.byte-index l.bytes)) + l.room ≡ 255
