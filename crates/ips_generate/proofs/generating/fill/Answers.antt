use Rattle.std.proofs.Common.{refl}
use Rattle.ips_generate.proofs.generating.fill.Goals as goal

pub returns : goal.returns
returns c = rw (c.in_ok-put_packages.ensures, c.in_ok-put_all.ensures, c.in_ok-put_frame.ensures) refl
