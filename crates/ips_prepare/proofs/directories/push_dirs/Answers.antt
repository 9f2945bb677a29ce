use Rattle.ips_prepare.proofs.Paths.{has_name, dirs_more}
use Rattle.ips_prepare.proofs.directories.push_dirs.Goals as goal

pub push_dir-requires-clause-name : goal.push_dir-requires-clause-name
push_dir-requires-clause-name c = has_name c.args.contents.now c.loop-content.content-index c.content-item.result c.loop-content-test.true c.content-item.is c.requires.names

pub loop-content-preserved : goal.loop-content-preserved
loop-content-preserved c =
    dirs_more c.args.publisher.now _ _ _ c.args.contents.now c.loop-content.content-index c.content-item.result c.loop-content-test.true c.content-item.is c.loop-content.invariant c.in_ok-push_dir.ensures
