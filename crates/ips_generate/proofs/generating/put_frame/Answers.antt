use Rattle.std.proofs.Common.{refl}
use Rattle.ips_generate.proofs.Names.{mark_path, top_path, own_path, catalog_path, pkg_path, file_path}
use Rattle.ips_generate.proofs.generating.put_frame.Goals as goal

pub put_top-requires : goal.put_top-requires
put_top-requires c = mark_path

pub put_dir-requires : goal.put_dir-requires
put_dir-requires c = top_path

pub put_dir-requires-2 : goal.put_dir-requires-2
put_dir-requires-2 c = own_path

pub put_file-requires : goal.put_file-requires
put_file-requires c = catalog_path

pub put_dir-requires-3 : goal.put_dir-requires-3
put_dir-requires-3 c = pkg_path

pub put_dir-requires-4 : goal.put_dir-requires-4
put_dir-requires-4 c = file_path

pub returns : goal.returns
returns c = rw (c.in_ok-put_dir-4.ensures, c.in_ok-put_dir-3.ensures, c.in_ok-put_file.ensures, c.in_ok-put_dir-2.ensures, c.in_ok-put_dir.ensures, c.in_ok-put_top.ensures, c.deref.ensures.value, c.in_ok-offers.ensures) refl
