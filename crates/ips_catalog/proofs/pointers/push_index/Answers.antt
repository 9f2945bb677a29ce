use Rattle.std.proofs.Common.{append_assoc}
use Rattle.ips_catalog.proofs.PlainBytes.{plain_decimal}
use Rattle.ips_catalog.proofs.pointers.push_index.Goals as goal

pub returns : goal.returns
returns c =
    rw (c.in_ok-write.ensures.bytes, c.in_ok-push_str.ensures.bytes, plain_decimal c.args.index c.ranges.index.fits) (simp append_assoc)
