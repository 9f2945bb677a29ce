use Rattle.std.proofs.Common.{List, take_all, ◌∙◌, ap, arith}
use Rattle.std.specs.List.{flat_map}
use Rattle.ips_found.specs.declared.found.Thing.{Thing}
use Rattle.ips_image_steps.specs.saving.Saving.{last_at, saved_at, thing_placed}
use Rattle.ips_image_steps.proofs.saving.Last.{last_more}
use Rattle.ips_image_steps.proofs.saving.filling.put_things.Goals as goal

pub loop-i-preserved : goal.loop-i-preserved
loop-i-preserved c = record {
  so_far = λ q. last_more (thing_placed c.args.root.now.bytes) c.args.things.now c.loop-i.i c.index-things-i.result q (saved_at c.args.saved.now q) (saved_at c.loop-i.saved q) (saved_at c.put_thing.new.saved q) c.loop-i-test.true c.index-things-i.is (c.loop-i.invariant.so_far q) (c.in_ok-put_thing.ensures q);
}

pub returns : goal.returns
returns c = λ q. c.loop-i.invariant.so_far q ∙ ap (λ (l : List Thing). last_at (flat_map (thing_placed c.args.root.now.bytes) l) q (saved_at c.args.saved.now q)) (take_all c.loop-i.i c.args.things.now (omega (arith, c.loop-i-test.false)))
