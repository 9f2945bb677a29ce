use Rattle.std.proofs.Common.{◌++◌, List, take_all, ◌∙◌, ap, arith}
use Rattle.ips_aside.specs.declared.sides.side.Side.{Side}
use Rattle.ips_aside.specs.Lost.{lost_of}
use Rattle.ips_aside.proofs.FirstFree.{gathered}
use Rattle.ips_aside.proofs.finding.gather.Goals as goal

pub loop-i-preserved : goal.loop-i-preserved
loop-i-preserved c = record {
  so_far = gathered c.args.sides.now c.loop-i.i c.index-sides-i.result c.args.lost.now.items c.loop-i.lost.items c.add.new.lost.items c.loop-i-test.true c.index-sides-i.is c.loop-i.invariant.so_far c.in_ok-add.ensures;
}

pub returns : goal.returns
returns c = c.loop-i.invariant.so_far ∙ ap (λ (l : List Side). c.args.lost.now.items ++ lost_of l) (take_all c.loop-i.i c.args.sides.now (omega (arith, c.loop-i-test.false)))
