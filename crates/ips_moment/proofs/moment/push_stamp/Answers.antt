use Rattle.std.proofs.Common.{append_assoc}
use Rattle.ips_moment.proofs.moment.push_stamp.Goals as goal

pub returns : goal.returns
returns c =
    rw (c.in_ok-push_str-2.ensures.bytes, c.in_ok-push_pair-7.ensures, c.in_ok-push_pair-6.ensures, c.in_ok-push_pair-5.ensures, c.in_ok-push_str.ensures.bytes, c.in_ok-push_pair-4.ensures, c.in_ok-push_pair-3.ensures, c.in_ok-push_pair-2.ensures, c.in_ok-push_pair.ensures)
    (simp append_assoc)
