use Rattle.std.proofs.Common.{append_assoc}
use Rattle.ips_refute.specs.Text.{pair_text}
use Rattle.ips_refute.proofs.Joined.{joined}
use Rattle.ips_refute.proofs.printing.push_set.Goals as goal

pub returns : goal.returns
returns c =
    rw (c.in_ok-push_more_pairs.ensures, c.in_ok-push_pair.ensures, c.in-Some.ensures.cases.0, joined 44 pair_text c.in-Some.first.now c.in-Some.others.now) (simp append_assoc)
