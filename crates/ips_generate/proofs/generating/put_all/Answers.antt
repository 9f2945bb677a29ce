use Rattle.std.proofs.Common.{refl}
use Rattle.ips_generate.proofs.Names.{all_path}
use Rattle.ips_generate.proofs.generating.put_all.Goals as goal

pub put_manifest-requires : goal.put_manifest-requires
put_manifest-requires c = all_path

pub returns : goal.returns
returns c = rw (c.in_ok-put_manifest.ensures, c.deref.ensures.value, c.in_ok-bytes.ensures) refl
