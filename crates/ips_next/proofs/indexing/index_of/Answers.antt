use Rattle.ips_next.proofs.Scanning.{last_stem, one_put}
use Rattle.ips_next.proofs.indexing.index_of.Goals as goal

pub loop-package-preserved : goal.loop-package-preserved
loop-package-preserved c =
    one_put c.args.packages.now c.loop-package.left.now c.in-Some.others.now c.in-Some.package.now c.loop-package.index c.put.new.index c.requires.order c.in-Some.ensures.cases.0
    c.loop-package.invariant c.in_ok-put.ensures.put c.in_ok-put.ensures.rows

pub put-requires : goal.put-requires
put-requires c = last_stem c.args.packages.now c.loop-package.left.now c.in-Some.others.now c.in-Some.package.now c.loop-package.index c.requires.each c.loop-package.invariant c.in-Some.ensures.cases.0
