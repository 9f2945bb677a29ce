use Rattle.std.proofs.Common.{refl}
use Rattle.ips_refute.proofs.Joined.{lines}
use Rattle.ips_refute.proofs.printing.print_refutation.Goals as goal

pub returns : goal.returns
returns c = rw (c.from_string.ensures, c.in_ok-push_nogoods.ensures, c.in_ok-push_str.ensures.bytes, c.new-out.ensures.bytes, lines c.args.nogoods.now) refl
