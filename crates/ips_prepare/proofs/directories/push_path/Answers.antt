use Rattle.ips_prepare.proofs.Paths.{path_pushed}
use Rattle.ips_prepare.proofs.directories.push_path.Goals as goal

pub returns-in_ok-push-in-Ok : goal.returns-in_ok-push-in-Ok
returns-in_ok-push-in-Ok c = path_pushed _ _ c.in-Ok.path c.args.bytes.now c.in_ok-push-in-Ok.ensures.items c.in-Ok.ensures.found
