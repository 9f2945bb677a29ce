use Rattle.ips_text.proofs.Fronts.{front_path}
use Rattle.ips_generate.proofs.files.put_file.Goals as goal

pub put_dir-requires : goal.put_dir-requires
put_dir-requires c = front_path c.args.dir.now c.args.last.now c.requires
