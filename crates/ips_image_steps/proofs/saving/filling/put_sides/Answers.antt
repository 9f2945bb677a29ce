use Rattle.std.proofs.Common.{List, take_all, ◌∙◌, ap, arith}
use Rattle.std.specs.List.{flat_map}
use Rattle.ips_aside.specs.declared.sides.side.Side.{Side}
use Rattle.ips_image_steps.specs.saving.Saving.{last_at, saved_at, side_placed}
use Rattle.ips_image_steps.proofs.saving.Last.{last_more}
use Rattle.ips_image_steps.proofs.saving.filling.put_sides.Goals as goal

pub loop-i-preserved : goal.loop-i-preserved
loop-i-preserved c = record {
  so_far = λ q. last_more side_placed c.args.sides.now c.loop-i.i c.index-sides-i.result q (saved_at c.args.saved.now q) (saved_at c.loop-i.saved q) (saved_at c.put_side.new.saved q) c.loop-i-test.true c.index-sides-i.is (c.loop-i.invariant.so_far q) (c.in_ok-put_side.ensures q);
}

pub returns : goal.returns
returns c = λ q. c.loop-i.invariant.so_far q ∙ ap (λ (l : List Side). last_at (flat_map side_placed l) q (saved_at c.args.saved.now q)) (take_all c.loop-i.i c.args.sides.now (omega (arith, c.loop-i-test.false)))
