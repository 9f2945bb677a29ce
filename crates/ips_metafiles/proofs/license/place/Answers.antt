use Rattle.std.proofs.Common.{append_assoc}
use Rattle.ips_metafiles.proofs.license.place.Goals as goal

pub returns : goal.returns
returns c = rw (c.in_ok-push_quoted-2.ensures, c.in_ok-push_str-2.ensures.bytes, c.in_ok-push_quoted.ensures, c.in_ok-push_str.ensures.bytes, c.new-place.ensures.bytes) (simp append_assoc)
