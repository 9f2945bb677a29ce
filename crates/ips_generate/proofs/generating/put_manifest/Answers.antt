use Rattle.std.proofs.Common.{refl}
use Rattle.ips_generate.proofs.generating.put_manifest.Goals as goal

pub returns : goal.returns
returns c = rw (c.in_ok-put_file.ensures, c.deref.ensures.value, c.in_ok-extend_from_slice.ensures.items, c.in_ok-dir.ensures.items) refl
