use Rattle.std.proofs.Common.{List, take_all, ◌∙◌, ap, arith}
use Rattle.std.specs.List.{flat_map}
use Rattle.ips_aside.specs.declared.lost.LostName.{LostName}
use Rattle.ips_image_steps.specs.saving.Saving.{last_at, saved_at, name_placed}
use Rattle.ips_image_steps.proofs.saving.Last.{last_more}
use Rattle.ips_image_steps.proofs.saving.filling.put_names.Goals as goal

pub loop-i-preserved : goal.loop-i-preserved
loop-i-preserved c = record {
  so_far = λ q. last_more name_placed c.args.names.now c.loop-i.i c.index-names-i.result q (saved_at c.args.saved.now q) (saved_at c.loop-i.saved q) (saved_at c.put_name.new.saved q) c.loop-i-test.true c.index-names-i.is (c.loop-i.invariant.so_far q) (c.in_ok-put_name.ensures q);
}

pub returns : goal.returns
returns c = λ q. c.loop-i.invariant.so_far q ∙ ap (λ (l : List LostName). last_at (flat_map name_placed l) q (saved_at c.args.saved.now q)) (take_all c.loop-i.i c.args.names.now (omega (arith, c.loop-i-test.false)))
