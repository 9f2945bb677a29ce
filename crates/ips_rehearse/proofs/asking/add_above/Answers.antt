use Rattle.std.proofs.Common.{refl, sym, ◌∙◌}
use Rattle.ips_text.proofs.Ancestry.{parent_length}
use Rattle.ips_outside.specs.Tearing.{in_set}
use Rattle.ips_rehearse.proofs.Keys.{above_more, none_above}
use Rattle.ips_rehearse.proofs.asking.add_above.Goals as goal

pub loop-dir-init : goal.loop-dir-init
loop-dir-init c = λ q. refl

pub loop-dir-preserved : goal.loop-dir-preserved
loop-dir-preserved c = λ q.
    above_more q c.loop-dir.at.now c.in-Some.dir.now (in_set c.loop-dir.above q) (in_set c.add_once.new.paths q) c.in-Some.ensures.some (c.in_ok-add_once.ensures q) ∙ c.loop-dir.invariant q

pub loop-dir-smaller : goal.loop-dir-smaller
loop-dir-smaller c = parent_length c.loop-dir.at.now c.in-Some.dir.now c.in-Some.ensures.some

pub returns : goal.returns
returns c = λ q. sym (none_above q c.loop-dir.at.now (in_set c.loop-dir.above q) c.in_default.ensures.none) ∙ c.loop-dir.invariant q
