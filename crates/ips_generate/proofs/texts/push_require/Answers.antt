use Rattle.std.proofs.Common.{append_assoc}
use Rattle.ips_generate.proofs.texts.push_require.Goals as goal

pub returns : goal.returns
returns c = rw (c.in_ok-extend_from_slice-2.ensures.items, c.in_ok-push_number.ensures, c.in_ok-extend_from_slice.ensures.items) (simp append_assoc)
